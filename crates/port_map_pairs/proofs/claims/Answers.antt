-- `port_map_pairs::claims` meets its contract.
use Rattle.port_map_pairs.proofs.Bytes.{holds}
use Rattle.port_map_pairs.proofs.claims.Goals as goal

pub returns : goal.returns
returns c = holds
