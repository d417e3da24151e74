-- `flush_call::keep_macs` meets its contract: no MAC is named, or the filter was run.
use borrow.Author.Tests.{not-true, not-false}
use Rattle.flush_call.proofs.Tests.{macs_none, macs_kept}
use Rattle.flush_call.proofs.keep_macs.Goals as goal

pub returns-then-not-f : goal.returns-then-not-f
returns-then-not-f c = search (macs_none, not-true)

pub returns : goal.returns
returns c = search (macs_kept, not-false)
