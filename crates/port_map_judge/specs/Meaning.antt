-- The VLANs and the labels of a map, and the bits of VLANs that were seen.
-- Assumes nothing.
use Rattle.std.specs.Prelude.{ℕ, ◌+◌, ◌/◌, ◌%◌, Bool, true, not, List, map, eqb, drop, ◌≡◌}
use Rattle.numbers.specs.Tests.{both, any_of}
use Rattle.numbers.specs.Numberings.{bit_at}
use Rattle.numbers.specs.Ranges.{vlan_good}
use Rattle.flush_bits.specs.Ranged.{Ranged}
use Rattle.port_map.specs.Maps.{Pair, pair_bytes, pairs_in, vlan_of, label_of, fine_good}
use Rattle.port_map_search.specs.Meaning.{pair_at}

abbrev pub vlans_in : List ℕ → List ℕ
vlans_in m = map vlan_of (pairs_in m)

abbrev pub labels_in : List ℕ → List ℕ
labels_in m = map label_of (pairs_in m)

-- whether a number of the pair at an offset is good, and that of no pair after it
abbrev pub alone_at : (ℕ → Bool) → (Pair → ℕ) → List ℕ → ℕ → Bool
alone_at good f m at = both (good (f (pair_at m at))) (not (any_of (eqb (f (pair_at m at))) (map f (pairs_in (drop (at + pair_bytes) m)))))

-- a bit for each number that a VLAN may have
abbrev pub seen_bytes : ℕ
seen_bytes = 512

-- whether v is a good VLAN that is not among the bits s; then they have become t, with it
pub record Noted (v : ℕ) (s t : List ℕ) (r : Bool) : Type 0 where
  pub says : r ≡ both (vlan_good v) (not (bit_at v s))
  pub added : r ≡ true → Ranged s t v (v + 1)

-- a bit for each number of 14 bits
abbrev pub met_bytes : ℕ
met_bytes = 2048

-- the bit that h gives to a number is set for all numbers of the list
abbrev pub MetAt : (ℕ → ℕ) → List ℕ → List ℕ → Type 0
MetAt h l s = (x : ℕ) → any_of (eqb x) l ≡ true → bit_at (h x) s ≡ true

-- that of the low 14 bits is
abbrev pub Met : List ℕ → List ℕ → Type 0
Met l s = MetAt (λ x. x % 16384) l s

-- whether x is a good label that is not in the list; then the bits s have become t, with that of x
pub record LabelNoted (x : ℕ) (l s t : List ℕ) (r : Bool) : Type 0 where
  pub says : r ≡ both (fine_good x) (not (any_of (eqb x) l))
  pub added : r ≡ true → Ranged s t (x % 16384) (x % 16384 + 1)

-- a bit for each number of the low 17 bits, and one for each of the high 16
abbrev pub low_bytes : ℕ
low_bytes = 16384

abbrev pub high_bytes : ℕ
high_bytes = 8192

abbrev pub low_of : ℕ → ℕ
low_of x = x % 131072

abbrev pub high_of : ℕ → ℕ
high_of x = x / 256 % 65536

-- whether x is a good label that is not in the list; then the bits s and u have become t and v, with those of x
pub record LabelNotedTwice (x : ℕ) (l s t u v : List ℕ) (r : Bool) : Type 0 where
  pub says : r ≡ both (fine_good x) (not (any_of (eqb x) l))
  pub low : r ≡ true → Ranged s t (low_of x) (low_of x + 1)
  pub high : r ≡ true → Ranged u v (high_of x) (high_of x + 1)
