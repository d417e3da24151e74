-- `ingress_call::write_label` meets its contract: each piece right after the one before.
use Rattle.ingress_call.proofs.Pieces.{label_written}
use Rattle.ingress_call.proofs.write_label.Goals as goal

pub returns : goal.returns
returns c = search label_written
