-- A slice of pairs as a port's map of port_map/specs: as its list of pairs, and as its bytes.
-- Assumes nothing.
use Rattle.std.specs.Prelude.{ℕ, ◌/◌, ◌%◌, ◌^◌, ◌<◌, List, [], ◌∷◌, ◌++◌, map, ◌≡◌}
use Rattle.numbers.specs.Bytes.{bytes_of}
use Rattle.port_map.specs.Maps.{Pair, pairs_in, pairs_good, map_good}
use Rattle.port_map_pairs.specs.declared.MapPair.{MapPair}

abbrev pub as_pair : MapPair → Pair
as_pair p = record { vlan = p.vlan; label = p.label }

-- "a lent list of pairs of VLAN and fine-grained label"
abbrev pub as_pairs : List MapPair → List Pair
as_pairs ps = map as_pair ps

-- the bytes of a pair: VLAN 2, label 4, the most significant first
unfoldable pub pair_bytes_of : MapPair → List ℕ
pair_bytes_of p =
    p.vlan.0 / 2 ^ 8 ∷ p.vlan.0 % 2 ^ 8
    ∷ p.label.0 / 2 ^ 24 ∷ p.label.0 / 2 ^ 16 % 2 ^ 8 ∷ p.label.0 / 2 ^ 8 % 2 ^ 8 ∷ p.label.0 % 2 ^ 8 ∷ []

-- the map that is lent as bytes, from a slice of pairs
unfoldable pub map_bytes_of : List MapPair → List ℕ
map_bytes_of [] = []
map_bytes_of (p ∷ ps) = pair_bytes_of p ++ map_bytes_of ps

-- the bytes hold the slice's pairs and no others, and are a good map where these are good; of a VLAN of 2 bytes and a label of 4 they are
-- the bytes
pub record PairBytes : Type 0 where
  pub pairs : (ps : List MapPair) → pairs_in (map_bytes_of ps) ≡ as_pairs ps
  pub good : (ps : List MapPair) → map_good (map_bytes_of ps) ≡ pairs_good (as_pairs ps)
  pub bytes : (p : MapPair) → p.vlan.0 < 2 ^ 16 → p.label.0 < 2 ^ 32 → pair_bytes_of p ≡ bytes_of 2 p.vlan.0 ++ bytes_of 4 p.label.0
