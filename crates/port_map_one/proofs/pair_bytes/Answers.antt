-- `port_map_one::pair_bytes` meets its contract: byte by byte.
use mathlib.Core.Path.{refl}
use Rattle.port_map_pairs.specs.Pairs.{pair_bytes_of}
use Rattle.port_map_one.proofs.pair_bytes.Goals as goal

pub returns : goal.returns
unfolding pair_bytes_of
returns c = refl
