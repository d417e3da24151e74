-- What one sub-TLV of a type brings, by its length; and how many numbers.
-- Assumes nothing.
use Prim.Native.Nat.{ℕ, ◌+◌, ◌-◌, ◌*◌, ◌/◌, ◌%◌, ◌<◌, ◌≤◌}
use mathlib.Core.List.{List, [], ◌∷◌, map, flat_map, append-nil}
use mathlib.Core.Path.{◌≡◌, refl, sym, ap}
use native.Mathlib.Omega.{arith}
use lib.ListN.{length, drop, length-drop, length-map}
use borrow.Author.Tests.{eq-eqb, ne_eqb, le-leb, lt-leb}
use Rattle.numbers.specs.Tests.{pick, both, either}
use Rattle.numbers.specs.Bytes.{num, parts}
use Rattle.numbers.proofs.Parts.{length-joined}
use Rattle.hello.specs.Tlvs.{Tlv, tlv}
use Rattle.hello.specs.Pieces.{inside}
use Rattle.hello.specs.Contents.{Nickname}
use Rattle.hello.specs.Reading.{parameters_of, nickname_of, trees_of, smart_mac_of, sub_says, says}
use Rattle.hello.specs.Area.{counted, alone, parameters_numbers, nickname_numbers, trees_numbers, smart_mac_numbers}
use Rattle.hello_judge.proofs.Subs.{parts-count}
use Rattle.hello_count.specs.Sections.{brought, joined, sub_brought, sub_numbers}

-- ---- by its length

module _ (v : List ℕ) where
  pub got_22 : length v ≡ 4 → sub_brought 22 (tlv 22 v) ≡ parameters_numbers (parameters_of v) ∷ []
  unfolding sub_brought says inside sub_says both either pick brought
  got_22 h = rw (eq-eqb (length v) 4 h)

  none_22 : (length v ≡ 4 → ⊥) → sub_brought 22 (tlv 22 v) ≡ []
  unfolding sub_brought says inside sub_says both either pick brought
  none_22 h = rw (ne_eqb (length v) 4 h)

  pub got_6 : length v % 5 ≡ 0 → sub_brought 6 (tlv 6 v) ≡ counted nickname_numbers (map nickname_of (parts 5 v)) ∷ []
  unfolding sub_brought says inside sub_says both either pick brought
  got_6 h = rw (eq-eqb (length v % 5) 0 h)

  none_6 : (length v % 5 ≡ 0 → ⊥) → sub_brought 6 (tlv 6 v) ≡ []
  unfolding sub_brought says inside sub_says both either pick brought
  none_6 h = rw (ne_eqb (length v % 5) 0 h)

  pub got_8 : 2 ≤ length v → length v % 2 ≡ 0 → sub_brought 8 (tlv 8 v) ≡ trees_numbers (trees_of v) ∷ []
  unfolding sub_brought says inside sub_says both either pick brought
  got_8 g h = rw (le-leb 2 (length v) g, eq-eqb (length v % 2) 0 h)

  short_8 : length v < 2 → sub_brought 8 (tlv 8 v) ≡ []
  unfolding sub_brought says inside sub_says both either pick brought
  short_8 h = rw (lt-leb 2 (length v) h)

  none_8 : 2 ≤ length v → (length v % 2 ≡ 0 → ⊥) → sub_brought 8 (tlv 8 v) ≡ []
  unfolding sub_brought says inside sub_says both either pick brought
  none_8 g h = rw (le-leb 2 (length v) g, ne_eqb (length v % 2) 0 h)

  pub got_23 : 4 ≤ length v → (length v - 4) % 6 ≡ 0 → sub_brought 23 (tlv 23 v) ≡ smart_mac_numbers (smart_mac_of v) ∷ []
  unfolding sub_brought says inside sub_says both either pick brought
  got_23 g h = rw (le-leb 4 (length v) g, eq-eqb ((length v - 4) % 6) 0 h)

  short_23 : length v < 4 → sub_brought 23 (tlv 23 v) ≡ []
  unfolding sub_brought says inside sub_says both either pick brought
  short_23 h = rw (lt-leb 4 (length v) h)

  none_23 : 4 ≤ length v → ((length v - 4) % 6 ≡ 0 → ⊥) → sub_brought 23 (tlv 23 v) ≡ []
  unfolding sub_brought says inside sub_says both either pick brought
  none_23 g h = rw (le-leb 4 (length v) g, ne_eqb ((length v - 4) % 6) 0 h)

-- ---- how many numbers

pub one-joined : (k : ℕ) (t : Tlv) (x : List ℕ) → sub_brought k t ≡ x ∷ [] → sub_numbers k t ≡ x
unfolding sub_numbers joined flat_map
one-joined k t x e = rw (e, append-nil x)

none_joined : (k : ℕ) (t : Tlv) → sub_brought k t ≡ [] → 0 ≡ length (sub_numbers k t)
unfolding sub_numbers joined flat_map
none_joined k t e = rw e

pub alone-length : (n : ℕ) → length (alone n) ≡ 1
unfolding alone
alone-length n = refl

pub nickname_length : (n : Nickname) → length (nickname_numbers n) ≡ 3
unfolding nickname_numbers
nickname_length n = refl

pub counted-length : {A : Type 0} (c : ℕ) (f : A → List ℕ) → ((x : A) → length (f x) ≡ c) → (xs : List A) → length (counted f xs) ≡ 1 + c * length xs
unfolding counted
counted-length c f h xs = let n = length-joined c f h xs in omega arith

module _ (v : List ℕ) where
  pub numbers_22 : length v ≡ 4 → 2 ≡ length (sub_numbers 22 (tlv 22 v))
  unfolding parameters_numbers
  numbers_22 h = sym (ap length (one-joined 22 (tlv 22 v) _ (got_22 v h)))

  pub zero_22 : (length v ≡ 4 → ⊥) → 0 ≡ length (sub_numbers 22 (tlv 22 v))
  zero_22 h = none_joined 22 (tlv 22 v) (none_22 v h)

  pub numbers_6 : length v % 5 ≡ 0 → 1 + 3 * (length v / 5) ≡ length (sub_numbers 6 (tlv 6 v))
  numbers_6 h =
      let a = ap length (one-joined 6 (tlv 6 v) _ (got_6 v h)) in
      let b = counted-length 3 nickname_numbers nickname_length (map nickname_of (parts 5 v)) in
      let c = length-map (parts 5 v) nickname_of in
      let d = parts-count 5 (omega arith) (length v / 5) v (omega arith) in
      omega arith

  pub zero_6 : (length v % 5 ≡ 0 → ⊥) → 0 ≡ length (sub_numbers 6 (tlv 6 v))
  zero_6 h = none_joined 6 (tlv 6 v) (none_6 v h)

  pub numbers_8 : 2 ≤ length v → length v % 2 ≡ 0 → 2 + (length v - 2) / 2 ≡ length (sub_numbers 8 (tlv 8 v))
  unfolding trees_numbers trees_of
  numbers_8 g h =
      let w : List ℕ = drop 2 v in
      let l = length-drop 2 v in
      let a = ap length (one-joined 8 (tlv 8 v) _ (got_8 v g h)) in
      let b = counted-length 1 alone alone-length (map num (parts 2 w)) in
      let c = length-map (parts 2 w) num in
      let d = parts-count 2 (omega arith) ((length v - 2) / 2) w (omega arith) in
      omega arith

  pub zero_8_short : length v < 2 → 0 ≡ length (sub_numbers 8 (tlv 8 v))
  zero_8_short h = none_joined 8 (tlv 8 v) (short_8 v h)

  pub zero_8 : 2 ≤ length v → (length v % 2 ≡ 0 → ⊥) → 0 ≡ length (sub_numbers 8 (tlv 8 v))
  zero_8 g h = none_joined 8 (tlv 8 v) (none_8 v g h)

  pub numbers_23 : 4 ≤ length v → (length v - 4) % 6 ≡ 0 → 4 + (length v - 4) / 6 ≡ length (sub_numbers 23 (tlv 23 v))
  unfolding smart_mac_numbers smart_mac_of
  numbers_23 g h =
      let w : List ℕ = drop 4 v in
      let l = length-drop 4 v in
      let a = ap length (one-joined 23 (tlv 23 v) _ (got_23 v g h)) in
      let b = counted-length 1 alone alone-length (map num (parts 6 w)) in
      let c = length-map (parts 6 w) num in
      let d = parts-count 6 (omega arith) ((length v - 4) / 6) w (omega arith) in
      omega arith

  pub zero_23_short : length v < 4 → 0 ≡ length (sub_numbers 23 (tlv 23 v))
  zero_23_short h = none_joined 23 (tlv 23 v) (short_23 v h)

  pub zero_23 : 4 ≤ length v → ((length v - 4) % 6 ≡ 0 → ⊥) → 0 ≡ length (sub_numbers 23 (tlv 23 v))
  zero_23 g h = none_joined 23 (tlv 23 v) (none_23 v g h)
