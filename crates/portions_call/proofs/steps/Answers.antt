-- `portions_call::steps` meets its contract: k, or the slots left.
use Prim.Native.Nat.{ℕ, ◌-◌, ◌<◌, min}
use mathlib.Core.Path.{◌≡◌}
use native.Mathlib.Decide.{dec_lt}
use native.Mathlib.Omega.{arith}
use Rattle.portions.specs.Portion.{portion_steps}
use Rattle.portions.proofs.Portions.{steps_k, steps_left}
use Rattle.portions_call.proofs.steps.Goals as goal

steps_min : (slot k n : ℕ) → min k (n - slot) ≡ portion_steps slot k n
steps_min slot k n = go (dec_lt (n - slot) k)
  where
    go : Dec (n - slot < k) → min k (n - slot) ≡ portion_steps slot k n
    go (yes l) = let e = steps_left slot k n (omega arith) in omega arith
    go (no l) = let e = steps_k slot k n (omega arith) in omega arith

pub returns : goal.returns
returns c = grind (arith, steps_min)
