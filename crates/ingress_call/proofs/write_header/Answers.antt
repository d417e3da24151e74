-- `ingress_call::write_header` meets its contract: each piece right after the one before.
use Rattle.ingress_call.proofs.Pieces.{header_written}
use Rattle.ingress_call.proofs.write_header.Goals as goal

pub returns : goal.returns
returns c = search header_written
