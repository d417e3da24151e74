-- What `port_map::claims` ensures is proved in the module beside.
use Rattle.port_map.proofs.Searches.{search_inverse}
use Rattle.port_map.proofs.claims.Goals as goal

pub returns : goal.returns
returns c = search_inverse
