-- `flush_filters::keep_macs` meets its contract: no MAC was gathered, or the filter was run.
use Rattle.flush_filters.proofs.Meant.{every_mac, macs_kept}
use Rattle.flush_filters.proofs.keep_macs.Goals as goal

pub returns-then-not-some_mac : goal.returns-then-not-some_mac
returns-then-not-some_mac c = every_mac _ _ c.some_mac.ensures c.if-not-some_mac.true _ _

pub returns : goal.returns
returns c = macs_kept _ _ c.some_mac.ensures c.if-not-some_mac.false _ _ _ c.keep.ensures
