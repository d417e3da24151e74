-- What is added to a set of bits.
-- Assumes nothing.
use Rattle.std.specs.Prelude.{ℕ, suc, ◌+◌, ◌-◌, ◌*◌, ◌/◌, ◌%◌, ◌<◌, Bool, false, List, ◌≡◌, leb, eqb, length}
use Rattle.numbers.specs.Tests.{both, either, between}
use Rattle.numbers.specs.Numberings.{vlans, nicknames, in_list, in_block, in_blocks, in_map, bit_of, bit_at}

-- the set s has become t: what passes the test is in it, and what was
pub record Gains (s t : List ℕ) (p : ℕ → Bool) : Type 0 where
  pub long : length t ≡ length s
  pub each : (x : ℕ) → bit_at x t ≡ either (bit_at x s) (p x)

-- nothing is in the set
abbrev pub None : List ℕ → Type 0
None s = (x : ℕ) → bit_at x s ≡ false

-- a list of nicknames, a block, blocks and a map of VLANs, as tests of a number
unfoldable pub in_nicknames : List ℕ → ℕ → Bool
in_nicknames v x = in_list nicknames x v

unfoldable pub in_vlan_block : List ℕ → ℕ → Bool
in_vlan_block b x = in_block vlans x b

unfoldable pub in_vlan_blocks : List ℕ → ℕ → Bool
in_vlan_blocks v x = in_blocks vlans x v

unfoldable pub in_vlan_map : List ℕ → ℕ → Bool
in_vlan_map v x = in_map vlans x v

-- ---- maps

-- the byte r is the byte m without the bits that are no VLAN's, as byte w of the set
pub record Edged (w m r : ℕ) : Type 0 where
  pub bits : (k : ℕ) → k < 8 → bit_of r k ≡ both (between 1 0xFFE (8 * w + k)) (bit_of m k)

-- x is a bit of byte w, and it is set in m
unfoldable pub in_byte : ℕ → ℕ → ℕ → Bool
in_byte w m x = both (eqb (x / 8) w) (bit_of m (x % 8))

-- and x is a VLAN
unfoldable pub vlan_in_byte : ℕ → ℕ → ℕ → Bool
vlan_in_byte w m x = both (between 1 0xFFE x) (in_byte w m x)

-- x is a bit of the byte m whose high bit is number n, and it is set
unfoldable pub in_shifted : ℕ → ℕ → ℕ → Bool
in_shifted n m x = both (leb n x) (both (leb (suc x) (n + 8)) (bit_of m (x - n)))

unfoldable pub vlan_in_shifted : ℕ → ℕ → ℕ → Bool
vlan_in_shifted n m x = both (between 1 0xFFE x) (in_shifted n m x)
