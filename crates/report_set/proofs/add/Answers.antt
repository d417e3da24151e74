-- `report_set::add` meets its contract: a bit that is 0 becomes 1, or nothing changes.
use Prim.Native.Nat.{ℕ, ◌/◌}
use mathlib.Core.Path.{◌≡◌}
use native.Mathlib.Omega.{arith}
use Rattle.report_set.proofs.Laws.{added_fits, added_long, added_counted}
use Rattle.report_set.proofs.add.Goals as goal

pub overflow_add-s : goal.overflow_add-s
overflow_add-s c =
    let a = c.args in
    let fits = added_fits a.s.now a.x c.requires c.if-w-b-ne0.false (c.slice_known-1.given (a.x / 64)).fits in
    omega arith

pub returns : goal.returns
returns c =
    let a = c.args in
    (λ z. record { longer = added_long a.s.now a.x c.requires c.if-w-b-ne0.false; counted = added_counted a.s.now a.x c.requires c.if-w-b-ne0.false }, λ z. let y : ◌≡◌ {A = ℕ} 0 1 = cc in absurd (omega arith))
