-- `convert_send::first` meets its contract: all, or a part.
use native.Mathlib.Omega.{arith}
use mathlib.Core.Path.{sym}
use lib.Seq.{take_all, length-take-le}
use Rattle.convert_send.proofs.first.Goals as goal

pub returns-then-l-n : goal.returns-then-l-n
returns-then-l-n c = sym (take_all c.args.n c.args.l.now (omega arith))

pub slice_bounds-result-end : goal.slice_bounds-result-end
slice_bounds-result-end c = rw (length-take-le _ _ c.if-l-n.false)
