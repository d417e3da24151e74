-- The bytes of a slice's pairs: pair by pair they are read back.
-- Assumes nothing.
use Prim.Native.Nat.{ℕ, ◌+◌, ◌*◌, ◌/◌, ◌%◌, ◌^◌, ◌<◌}
use native.Mathlib.Omega.{arith}
use mathlib.Core.List.{List, [], ◌∷◌, ◌++◌}
use mathlib.Core.Path.{◌≡◌, refl, ap, ◌∙◌}
use lib.ListN.{length}
use borrow.Author.Tests.{eq-eqb}
use Rattle.numbers.specs.Tests.{both}
use Rattle.numbers.specs.Bytes.{num, bytes_of}
use Rattle.port_map.specs.Maps.{port_vlan, campus_label, Pair, pair_of, pairs_in, pairs_good, map_good}
use Rattle.port_map.proofs.Steps.{pairs_end, pairs_more}
use Rattle.port_map_pairs.specs.declared.MapPair.{MapPair}
use Rattle.port_map_pairs.specs.Pairs.{as_pair, as_pairs, pair_bytes_of, map_bytes_of, PairBytes}

abbrev numbered : ℕ → ℕ → Pair
numbered v l = record { vlan = port_vlan v; label = campus_label l }

-- a pair of these bytes
pub pair_of_lem : (p : MapPair) → pair_of (pair_bytes_of p) ≡ as_pair p
unfolding pair_of pair_bytes_of num
pair_of_lem p =
    let v : ℕ = p.vlan.0 in
    let l : ℕ = p.label.0 in
    let e : v / 2 ^ 8 * 256 ^ 1 + (v % 2 ^ 8 * 256 ^ 0 + 0) ≡ v = omega arith in
    let g : l / 2 ^ 24 * 256 ^ 3 + (l / 2 ^ 16 % 2 ^ 8 * 256 ^ 2 + (l / 2 ^ 8 % 2 ^ 8 * 256 ^ 1 + (l % 2 ^ 8 * 256 ^ 0 + 0))) ≡ l = omega arith in
    λ i. numbered (e i) (g i)

pub map-length : (ps : List MapPair) → length (map_bytes_of ps) ≡ 6 * length ps
unfolding map_bytes_of pair_bytes_of
map-length [] = refl
map-length (p ∷ ps) = let e = map-length ps in omega arith

pub map_pairs : (ps : List MapPair) → pairs_in (map_bytes_of ps) ≡ as_pairs ps
unfolding map_bytes_of pair_bytes_of
map_pairs [] = pairs_end [] (omega arith)
map_pairs (p ∷ ps) =
    let e = map-length ps in
    pairs_more (map_bytes_of (p ∷ ps)) (omega arith) ∙ ap (λ (q : Pair). q ∷ pairs_in (map_bytes_of ps)) (pair_of_lem p) ∙ ap (λ (qs : List Pair). as_pair p ∷ qs) (map_pairs ps)

pub map-good : (ps : List MapPair) → map_good (map_bytes_of ps) ≡ pairs_good (as_pairs ps)
unfolding map_good both
map-good ps = let e = map-length ps in rw (eq-eqb (length (map_bytes_of ps) % 6) 0 (omega arith), map_pairs ps)

pair_bytes_lem : (p : MapPair) → p.vlan.0 < 2 ^ 16 → p.label.0 < 2 ^ 32 → pair_bytes_of p ≡ bytes_of 2 p.vlan.0 ++ bytes_of 4 p.label.0
unfolding pair_bytes_of bytes_of
pair_bytes_lem p gv gl =
    let v : ℕ = p.vlan.0 in
    let l : ℕ = p.label.0 in
    let a : v / 2 ^ 8 ≡ v / 256 ^ 1 % 256 = omega arith in
    let b : v % 2 ^ 8 ≡ v / 256 ^ 0 % 256 = omega arith in
    let c : l / 2 ^ 24 ≡ l / 256 ^ 3 % 256 = omega arith in
    let d : l / 2 ^ 16 % 2 ^ 8 ≡ l / 256 ^ 2 % 256 = omega arith in
    let e : l / 2 ^ 8 % 2 ^ 8 ≡ l / 256 ^ 1 % 256 = omega arith in
    let f : l % 2 ^ 8 ≡ l / 256 ^ 0 % 256 = omega arith in
    cc

pub holds : PairBytes
holds = record { pairs = map_pairs; good = map-good; bytes = pair_bytes_lem }
