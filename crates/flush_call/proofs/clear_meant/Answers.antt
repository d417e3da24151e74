-- `flush_call::clear_meant` meets its contract: the range of all slots.
use Rattle.flush_call.proofs.Calls.{whole_within, whole_refused, whole_done}
use Rattle.flush_call.proofs.clear_meant.Goals as goal

pub clear_portion-requires : goal.clear_portion-requires
clear_portion-requires c = whole_within _ c.requires

pub returns-in-Err : goal.returns-in-Err
returns-in-Err c = whole_refused _ _ _ _ _ c.clear_portion.ensures _ c.in-Err.is

pub returns : goal.returns
returns c = whole_done _ _ _ _ _ c.clear_portion.ensures _ c.in-Ok.is
