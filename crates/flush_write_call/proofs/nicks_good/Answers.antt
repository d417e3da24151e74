-- `flush_write_call::nicks_good` meets its contract.
use Rattle.flush_write_call.proofs.Laws.{nicks_tell}
use Rattle.flush_write_call.proofs.nicks_good.Goals as goal

pub returns : goal.returns
returns c = search nicks_tell
