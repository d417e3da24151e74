use Prim.Native.Nat.{ℕ, ◌+◌, ◌-◌, ◌*◌, ◌%◌, ◌<◌, ◌≤◌}
use mathlib.Core.Bool.{true}
use mathlib.Core.Path.{◌≡◌}
use Rattle.table_rounds.proofs.next_round.Given as goal

abbrev pub invariant-loop-i : goal.invariant-loop-i
invariant-loop-i g l =
    (l.from ≤ l.i) × (l.i ≤ l.n) × ((l.i - l.from) % 8 ≡ 0)
    × ((r : ℕ) → l.from + 8 * r < l.i → (l.from + 8 * r + 8 ≤ l.i) × goal.F-post g l.test (l.from + 8 * r) true)

abbrev pub decreases-loop-i : goal.decreases-loop-i
decreases-loop-i g l = l.n - l.i
