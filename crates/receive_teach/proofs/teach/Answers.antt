-- `receive_teach::teach` meets its contract: our own nickname teaches nothing, any other is learned.
use Rattle.receive_teach.proofs.Laws.{taught-nothing, taught_learns}
use Rattle.receive_teach.proofs.teach.Goals as goal

pub returns-then-e-nickname : goal.returns-then-e-nickname
returns-then-e-nickname c = search taught-nothing

pub returns : goal.returns
returns c = search taught_learns
