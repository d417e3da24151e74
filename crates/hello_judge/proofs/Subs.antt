-- What a sub-TLV counts, by its type and its length.
-- Assumes nothing.
use Prim.Native.Nat.{ℕ, zero, suc, ◌+◌, ◌-◌, ◌*◌, ◌/◌, ◌%◌, ◌<◌, ◌≤◌}
use mathlib.Core.List.{List, map}
use mathlib.Core.Path.{◌≡◌, refl, ap, ◌∙◌}
use native.Mathlib.Omega.{arith}
use lib.ListN.{length, drop, length-drop, length-map}
use borrow.Author.Tests.{eq-eqb, ne_eqb, le-leb, lt-leb}
use Rattle.numbers.specs.Tests.{pick, both}
use Rattle.numbers.specs.Bytes.{num, parts}
use Rattle.numbers.proofs.Parts.{parts_end, parts_more}
use Rattle.hello.specs.Tlvs.{tlv, stump}
use Rattle.hello.specs.Pieces.{inside}
use Rattle.hello.specs.Contents.{malformed}
use Rattle.hello.specs.Reading.{nickname_of, trees_of, smart_mac_of, sub_says, says}
use Rattle.hello_judge.specs.declared.Counts.{Counts}
use Rattle.hello_judge.specs.Counting.{add_malformed, add_parameters, add_nicknames, add_trees, add_macs, counting, sub_counting}

-- ---- how many parts

pub parts-count : (k : ℕ) → 0 < k → (n : ℕ) (l : List ℕ) → length l ≡ k * n → length (parts k l) ≡ n
parts-count k some zero l h = ap length (parts_end k some l (omega arith))
parts-count k some (suc n) l h =
    let d = length-drop k l in
    let m : k * suc n ≡ k + k * n = omega arith in
    let i = parts-count k some n (drop k l) (omega arith) in
    ap length (parts_more k some l (omega arith)) ∙ omega arith

module _ (v : List ℕ) where
  pub records_count : length v % 5 ≡ 0 → length (map nickname_of (parts 5 v)) ≡ length v / 5
  records_count h = length-map (parts 5 v) nickname_of ∙ parts-count 5 (omega arith) (length v / 5) v (omega arith)

  pub roots_count : 2 ≤ length v → length v % 2 ≡ 0 → length (map num (parts 2 (drop 2 v))) ≡ (length v - 2) / 2
  roots_count g h = let d = length-drop 2 v in length-map (parts 2 (drop 2 v)) num ∙ parts-count 2 (omega arith) ((length v - 2) / 2) (drop 2 v) (omega arith)

  pub macs-count : 4 ≤ length v → (length v - 4) % 6 ≡ 0 → length (map num (parts 6 (drop 4 v))) ≡ (length v - 4) / 6
  macs-count g h = let d = length-drop 4 v in length-map (parts 6 (drop 4 v)) num ∙ parts-count 6 (omega arith) ((length v - 4) / 6) (drop 4 v) (omega arith)

-- ---- a sub-TLV of each type

module _ (c : Counts) (v : List ℕ) where
  pub parameters_good_lem : length v ≡ 4 → add_parameters c 2 ≡ sub_counting 251 c (tlv 22 v)
  unfolding sub_counting says inside sub_says both pick counting
  parameters_good_lem h = rw (eq-eqb (length v) 4 h)

  pub nicknames_good_lem : length v % 5 ≡ 0 → add_nicknames c (1 + 3 * (length v / 5)) ≡ sub_counting 242 c (tlv 6 v)
  unfolding sub_counting says inside sub_says both pick counting
  nicknames_good_lem h = rw (eq-eqb (length v % 5) 0 h, records_count v h)

  pub trees_good_lem : 2 ≤ length v → length v % 2 ≡ 0 → add_trees c (2 + (length v - 2) / 2) ≡ sub_counting 242 c (tlv 8 v)
  unfolding sub_counting says inside sub_says both pick counting trees_of
  trees_good_lem g h = rw (le-leb 2 (length v) g, eq-eqb (length v % 2) 0 h, roots_count v g h)

  pub macs_good : 4 ≤ length v → (length v - 4) % 6 ≡ 0 → add_macs c (4 + (length v - 4) / 6) ≡ sub_counting 251 c (tlv 23 v)
  unfolding sub_counting says inside sub_says both pick counting smart_mac_of
  macs_good g h = rw (le-leb 4 (length v) g, eq-eqb ((length v - 4) % 6) 0 h, macs-count v g h)

  module _ (r : Counts) (bad : r ≡ counting c malformed) where
    pub parameters_bad : (length v ≡ 4 → ⊥) → r ≡ sub_counting 251 c (tlv 22 v)
    unfolding sub_counting says inside sub_says both pick
    parameters_bad h = rw (ne_eqb (length v) 4 h) bad

    pub nicknames_bad : (length v % 5 ≡ 0 → ⊥) → r ≡ sub_counting 242 c (tlv 6 v)
    unfolding sub_counting says inside sub_says both pick
    nicknames_bad h = rw (ne_eqb (length v % 5) 0 h) bad

    pub trees_short : length v < 2 → r ≡ sub_counting 242 c (tlv 8 v)
    unfolding sub_counting says inside sub_says both pick
    trees_short h = rw (lt-leb 2 (length v) h) bad

    pub trees_bad : 2 ≤ length v → (length v % 2 ≡ 0 → ⊥) → r ≡ sub_counting 242 c (tlv 8 v)
    unfolding sub_counting says inside sub_says both pick
    trees_bad g h = rw (le-leb 2 (length v) g, ne_eqb (length v % 2) 0 h) bad

    pub macs_short : length v < 4 → r ≡ sub_counting 251 c (tlv 23 v)
    unfolding sub_counting says inside sub_says both pick
    macs_short h = rw (lt-leb 4 (length v) h) bad

    pub macs_bad : 4 ≤ length v → ((length v - 4) % 6 ≡ 0 → ⊥) → r ≡ sub_counting 251 c (tlv 23 v)
    unfolding sub_counting says inside sub_says both pick
    macs_bad g h = rw (le-leb 4 (length v) g, ne_eqb ((length v - 4) % 6) 0 h) bad

    pub stump_bad : (h : ℕ) → r ≡ sub_counting h c stump
    unfolding sub_counting says inside
    stump_bad h = bad

-- ---- by its type

module _ (k : ℕ) (c : Counts) (v : List ℕ) where
  pub capability_other : (k ≡ 6 → ⊥) → (k ≡ 8 → ⊥) → c ≡ sub_counting 242 c (tlv k v)
  unfolding sub_counting says inside sub_says both pick counting
  capability_other d e = rw (ne_eqb k 6 d, ne_eqb k 8 e)

  pub geninfo_other : (k ≡ 23 → ⊥) → (k ≡ 22 → ⊥) → c ≡ sub_counting 251 c (tlv k v)
  unfolding sub_counting says inside sub_says both pick counting
  geninfo_other d e = rw (ne_eqb k 23 d, ne_eqb k 22 e)

  pub holder_other : (h : ℕ) → (h ≡ 242 → ⊥) → (h ≡ 251 → ⊥) → c ≡ sub_counting h c (tlv k v)
  unfolding sub_counting says inside sub_says both pick counting
  holder_other h d e = rw (ne_eqb h 242 d, ne_eqb h 251 e)

pub one_malformed : (c : Counts) → add_malformed c ≡ counting c malformed
unfolding counting
one_malformed c = refl
