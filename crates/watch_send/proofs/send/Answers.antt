-- `watch_send::send` meets its contract: the watch after each answer of sending.
use Rattle.watch_send.proofs.Laws.{watched_refused, watched_done}
use Rattle.watch_send.proofs.send.Goals as goal

pub returns-in-Err : goal.returns-in-Err
returns-in-Err c = search watched_refused

pub returns-in-Ok : goal.returns-in-Ok
returns-in-Ok c = search watched_done
