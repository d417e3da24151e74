-- `report_digits::put_decimal` meets its contract.
use mathlib.Core.Path.{ap}
use Prim.Native.Nat.{ℕ, ◌+◌}
use Rattle.report.specs.Text.{decimal}
use Rattle.report_digits.proofs.put_decimal.Goals as goal

pub returns : goal.returns
unfolding decimal
returns c = let e = c.width_of-k.ensures.0 in (rw e at c.put_digits.ensures, ap (λ (k : ℕ). c.args.at + k) e)
