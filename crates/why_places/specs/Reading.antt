-- What the walks read of a number and of a TLV before they read it whole.
-- Assumes nothing.
use denote.Ref.{Bor}
use denote.Param.Members.{Shared}
use Rattle.std.specs.Prelude.{ℕ, ◌+◌, ◌-◌, ◌%◌, ◌<◌, ◌≤◌, Bool, true, false, List, [], ◌≡◌, length, drop, get_or, eqb}
use Rattle.numbers.specs.Tests.{between, any_of}
use Rattle.numbers.specs.Bytes.{parts}
use Rattle.numbers.specs.Numberings.{number_of}
use Rattle.numbers.specs.declared.Numbering.{Numbering}
use Rattle.flush.specs.Payload.{Piece, tlv, stump, tlv_end}
use Rattle.flush_members.specs.Sound.{Sound}

-- the last byte of a number is its lowest
pub record LastByte (w : Numbering) : Type 0 where
  pub sound : Sound w
  pub last : (l : List ℕ) (at : ℕ) → at + w.size ≤ length l → get_or l (at + (w.size - 1)) 0 < 256 → number_of w (drop at l) % 256 ≡ get_or l (at + (w.size - 1)) 0

-- a list has the number x in it from an offset on
unfoldable pub left_has : Numbering → ℕ → List ℕ → ℕ → Bool
left_has w x v at = any_of (λ b. eqb (number_of w b) x) (parts w.size (drop at v))

-- where the answer is yes, the TLV at an offset is empty, and its type has no rule
pub record EmptyAt (l : List ℕ) (at : ℕ) (r : Bool) : Type 0 where
  pub room : r ≡ true → at + 2 ≤ length l
  pub end : r ≡ true → at + 2 ≡ at + tlv_end (drop at l)
  pub unruled : r ≡ true → between 1 8 (get_or l at 0) ≡ false

-- a closure answers at each whole TLV what `ask` does, which asks nothing of a lone byte or of an empty TLV whose type has no rule
pub record Asks {F : Type 0} (g : Shared F (ℕ × (Bor (List ℕ) × Unit {0})) Bool) (f : F) (ask : Piece → Bool) : Type 0 where
  pub says : (k : ℕ) (v : Bor (List ℕ)) (r : Bool) → g.post f (k, (v, tt)) r → r ≡ ask (tlv k v.now)
  pub cut : ask stump ≡ false
  pub unruled : (k : ℕ) → between 1 8 k ≡ false → ask (tlv k []) ≡ false
