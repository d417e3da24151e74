-- What `frame::claims` ensures is proved in proofs/Local.
use Rattle.frame.proofs.Local.{header_local, label_local, labels_good}
use Rattle.frame.proofs.claims.Goals as goal

pub returns : goal.returns
returns c = (header_local, label_local, labels_good)
