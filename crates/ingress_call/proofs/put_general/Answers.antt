-- `ingress_call::put_general` meets its contract: 16, or written.
use Rattle.ingress_call.proofs.Laws.{put_short, put_done}
use Rattle.ingress_call.proofs.put_general.Goals as goal

pub returns-then-out-n : goal.returns-then-out-n
returns-then-out-n c = search put_short

pub returns : goal.returns
returns c = search put_done
