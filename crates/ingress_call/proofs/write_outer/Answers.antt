-- `ingress_call::write_outer` meets its contract: each piece right after the one before.
use Rattle.ingress_call.proofs.Pieces.{outer_written}
use Rattle.ingress_call.proofs.write_outer.Goals as goal

pub returns : goal.returns
returns c = search outer_written
