use Prim.Native.Nat.{ℕ, ◌-◌, ◌≤◌}
use mathlib.Core.Bool.{Bool, false}
use mathlib.Core.Path.{◌≡◌}
use lib.ListN.{length, drop}
use Rattle.numbers.specs.Tests.{any_of}
use Rattle.flush.specs.Payload.{Piece, tlv, stump, tlvs}
use Rattle.flush_tlvs.proofs.some_tlv.Given as goal

abbrev pub invariant-loop-at : goal.invariant-loop-at
invariant-loop-at g l =
    (l.at ≤ length l.l)
    × ((ask : Piece → Bool) → ask stump ≡ false → ((k : ℕ) (v : _) (r : Bool) → goal.F-post g l.test k v r → r ≡ ask (tlv k v.now)) → any_of ask (tlvs l.l) ≡ any_of ask (tlvs (drop l.at l.l)))

abbrev pub decreases-loop-at : goal.decreases-loop-at
decreases-loop-at g l = length l.l - l.at
