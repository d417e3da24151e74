-- The pairs of a map one after the other: where a pair is left there is a first one, and then those of the rest.
-- Assumes nothing.
use Prim.Native.Nat.{ℕ, ◌+◌, ◌-◌, ◌≤◌, ◌<◌}
use native.Mathlib.Omega.{arith}
use mathlib.Core.List.{List, [], ◌∷◌, map}
use mathlib.Core.Path.{◌≡◌, ap, ◌∙◌}
use lib.ListN.{length, take, drop, length-drop}
use lib.Seq.{drop-drop}
use Rattle.numbers.proofs.Parts.{parts_end, parts_more}
use Rattle.port_map.specs.Maps.{pair_bytes, pair_of, pairs_in}

pub pairs_end : (m : List ℕ) → length m < pair_bytes → pairs_in m ≡ []
unfolding pairs_in
pairs_end m h = ap (map pair_of) (parts_end pair_bytes (omega arith) m h)

pub pairs_more : (m : List ℕ) → pair_bytes ≤ length m → pairs_in m ≡ pair_of (take pair_bytes m) ∷ pairs_in (drop pair_bytes m)
unfolding pairs_in
pairs_more m h = ap (map pair_of) (parts_more pair_bytes (omega arith) m h)

-- from an offset on
module _ (m : List ℕ) (at : ℕ) where
  pub pairs_done : length m - at < pair_bytes → pairs_in (drop at m) ≡ []
  pairs_done h = let d = length-drop at m in pairs_end (drop at m) (omega arith)

  pub pairs_at : at + pair_bytes ≤ length m → pairs_in (drop at m) ≡ pair_of (take pair_bytes (drop at m)) ∷ pairs_in (drop (at + pair_bytes) m)
  pairs_at h =
      let d = length-drop at m in
      pairs_more (drop at m) (omega arith) ∙ ap (λ (r : List ℕ). pair_of (take pair_bytes (drop at m)) ∷ pairs_in r) (drop-drop pair_bytes at m)
