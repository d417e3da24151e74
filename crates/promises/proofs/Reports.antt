-- A report that is refused leaves the area as it was.
-- Assumes nothing.
use Prim.Native.Nat.{ℕ}
use mathlib.Core.Bool.{Bool, true, false}
use mathlib.Core.List.{List}
use mathlib.Core.Path.{◌≡◌, refl}
use native.Mathlib.Omega.{arith}
use lib.Dec.{leb}
use lib.ListN.{length}
use Rattle.numbers.specs.Result.{check, settled, Outcome}
use Rattle.numbers.specs.After.{OnArea, on_area}
use Rattle.report.specs.Report.{reported, written, reported_to}
use Rattle.promises.specs.Claims.{ReportRefusal}
use Rattle.std.specs.Prelude.{Ok, Err}
use Rattle.numbers.specs.declared.refusals.Refusal.{Refusal}

refusal_leaves : (b : Bool) (x n : Refusal) (area : List ℕ) (w : OnArea (Outcome ℕ)) → ((k : Refusal) → w.answer ≡ Err k → ⊥)
    → (settled (λ k. on_area (Err k) area) (check b x (Ok w))).answer ≡ Err n
    → (settled (λ k. on_area (Err k) area) (check b x (Ok w))).area ≡ area
unfolding settled check
refusal_leaves false x n area w done h = refl
refusal_leaves true x n area w done h = absurd (done n h)

pub report_refusal : ReportRefusal
unfolding reported_to written
report_refusal t area n h = refusal_leaves (leb (length (reported t)) (length area)) _ n area _ (λ k e. let z : ◌≡◌ {A = ℕ} 0 1 = cc in omega arith) h
