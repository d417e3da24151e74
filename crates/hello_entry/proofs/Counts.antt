-- An entry of each type: how many numbers it has and how many bytes it is written as, by its count.
-- Assumes nothing.
use Prim.Native.Nat.{ℕ, ◌+◌, ◌*◌, ◌/◌, ◌^◌, ◌<◌, ◌≤◌}
use mathlib.Core.Bool.{Bool, true, false}
use mathlib.Core.List.{List, ◌++◌}
use mathlib.Core.Path.{◌≡◌, sym, ap, ◌∙◌}
use native.Mathlib.Omega.{arith}
use lib.Dec.{eqb}
use lib.ListN.{length, get_or, length-append}
use borrow.Author.Tests.{eqb-true, ne_eqb}
use Rattle.numbers.specs.Tests.{pick, either}
use Rattle.numbers.specs.Bytes.{bytes_of}
use Rattle.numbers.proofs.Bytes.{length-bytes_of}
use Rattle.hello.specs.Tlvs.{tlv_bytes}
use Rattle.hello.specs.Pieces.{Sub}
use Rattle.hello.specs.Writing.{head_of, sub_bytes}
use Rattle.hello_area.specs.Entries.{numbers_in, label_bytes, parameters_bytes, most_of, holder_for, take_sub, reach, sub_at}
use Rattle.hello_ends.proofs.Numbers.{numbers_length}
use Rattle.hello_entry.specs.Kinds.{has_section, count_at}
use Rattle.hello_entry.specs.Bytes.{parameters_at, run}
use Rattle.hello_entry.proofs.Plain.{length_run}
use Rattle.hello_entry.proofs.Shape.{sub_of, head_numbers, item_numbers, head_at, item_at, number_long, record_long, entry-alone, entry_listed}

-- ---- bytes

size_of : (k : ℕ) (v : List ℕ) → length (sub_bytes (sub_of k v)) ≡ 2 + length v
unfolding sub_bytes tlv_bytes
size_of k v = omega arith

two_long : (m n a b : ℕ) → length (bytes_of m a ++ bytes_of n b) ≡ m + n
two_long m n a b =
    let l = length-append (bytes_of m a) (bytes_of n b) in
    let x = length-bytes_of m a in
    let y = length-bytes_of n b in
    omega arith

parameters_long : (ns : List ℕ) (i : ℕ) → length (parameters_bytes (parameters_at ns i)) ≡ 4
unfolding parameters_bytes
parameters_long ns i = two_long 2 2 _ _

-- ---- each type

module _ (k : ℕ) (area : List ℕ) (i : ℕ) (good : reach (take_sub k) (numbers_in area) i ≤ length (numbers_in area)) where
  abbrev ns : List ℕ
  ns = numbers_in area

  -- the head has h numbers and a bytes, an element w numbers and b bytes, and there are at most t of them
  pub record Counted (h a w b t : ℕ) : Type 0 where
    pub few : get_or ns (i + h) 0 ≤ t
    pub inside : i + (h + (1 + w * get_or ns (i + h) 0)) ≤ length area / 8
    pub ends : reach (take_sub k) ns i ≡ i + (h + (1 + w * get_or ns (i + h) 0))
    pub long : length (sub_bytes (sub_at k ns i)) ≡ 2 + (a + b * get_or ns (i + h) 0)

  counted : (d : k ≡ 22 → ⊥) (h a w b t : ℕ) → head_numbers k ≡ h → item_numbers k ≡ w → most_of k ≡ t → length (head_at k ns i) ≡ a → ((j : ℕ) → length (item_at k ns j) ≡ b) → Counted h a w b t
  counted d h a w b t eh ew et ea eb =
      let e = entry_listed k ns i good d in
      let few : get_or ns (i + h) 0 ≤ t = rw (sym eh, sym et) e.few in
      let inside : i + (h + (1 + w * get_or ns (i + h) 0)) ≤ length ns = rw (sym eh, sym ew) e.inside in
      let ends : reach (take_sub k) ns i ≡ i + (h + (1 + w * get_or ns (i + h) 0)) = rw (sym eh, sym ew) e.ends in
      let n = numbers_length area in
      let x : List ℕ = run (item_at k ns) (item_numbers k) (i + head_numbers k + 1) (get_or ns (i + head_numbers k) 0) in
      let lx : length x ≡ b * get_or ns (i + h) 0 = rw (sym eh) (length_run (item_at k ns) (item_numbers k) b eb (get_or ns (i + head_numbers k) 0) (i + head_numbers k + 1)) in
      let l = length-append (head_at k ns i) x in
      let s = ap (λ (z : Sub). length (sub_bytes z)) e.is ∙ size_of k (head_at k ns i ++ x) in
      record { few = few; inside = omega arith; ends = ends; long = omega arith }

  pub nicknames-counted : (k ≡ 22 → ⊥) → k ≡ 6 → Counted 0 0 3 5 49
  unfolding head_numbers item_numbers head_at item_at pick
  nicknames-counted d e = counted d 0 0 3 5 49 (rw e) (rw e) (rw e) (rw e) (λ j. rw e (record_long ns j))

  pub trees_counted : (k ≡ 22 → ⊥) → (k ≡ 6 → ⊥) → k ≡ 8 → Counted 1 2 1 2 123
  unfolding head_numbers item_numbers head_at item_at pick
  trees_counted d f e = counted d 1 2 1 2 123 (rw e) (rw e) (rw e) (rw e (number_long 2 ns i)) (λ j. rw e (number_long 2 ns j))

  pub macs-counted : (k ≡ 22 → ⊥) → (k ≡ 6 → ⊥) → (k ≡ 8 → ⊥) → Counted 3 4 1 6 41
  unfolding head_numbers item_numbers head_at item_at pick label_bytes
  macs-counted d f e = counted d 3 4 1 6 41 (rw (ne_eqb k 22 d, ne_eqb k 6 f, ne_eqb k 8 e)) (rw (ne_eqb k 6 f, ne_eqb k 8 e)) (rw (ne_eqb k 6 f, ne_eqb k 8 e)) (rw (ne_eqb k 22 d, ne_eqb k 6 f, ne_eqb k 8 e) (length-bytes_of 4 _)) (λ j. rw (ne_eqb k 6 f, ne_eqb k 8 e) (number_long 6 ns j))

  -- ---- as the code has them

  pub alone-count : k ≡ 22 → 0 ≡ count_at k ns i
  unfolding count_at pick
  alone-count e = rw e

  pub nicknames-count : (k ≡ 22 → ⊥) → k ≡ 6 → (m : ℕ) → m ≡ get_or ns i 0 → m ≡ count_at k ns i
  unfolding count_at pick
  nicknames-count d e m em = em ∙ rw e

  pub trees_count : (k ≡ 22 → ⊥) → (k ≡ 6 → ⊥) → k ≡ 8 → (m : ℕ) → m ≡ get_or ns (i + 1) 0 → m ≡ count_at k ns i
  unfolding count_at pick
  trees_count d f e m em = em ∙ rw e

  pub macs-count : (k ≡ 22 → ⊥) → (k ≡ 6 → ⊥) → (k ≡ 8 → ⊥) → (m : ℕ) → m ≡ get_or ns (i + 3) 0 → m ≡ count_at k ns i
  unfolding count_at pick
  macs-count d f g m em = em ∙ rw (ne_eqb k 22 d, ne_eqb k 6 f, ne_eqb k 8 g)

  pub alone_ends : k ≡ 22 → i + 2 ≡ reach (take_sub k) ns i
  alone_ends e = sym (entry-alone k ns i good e).1.0

  pub alone_fits : k ≡ 22 → length area < 2 ^ 64 → i + 2 < 2 ^ 64
  alone_fits e big =
      let x = (entry-alone k ns i good e).0 in
      let n = numbers_length area in
      omega arith

  pub alone_long : k ≡ 22 → 6 ≡ length (sub_bytes (sub_at k ns i))
  alone_long e =
      let s = ap (λ (z : Sub). length (sub_bytes z)) (entry-alone k ns i good e).1.1 ∙ size_of k (parameters_bytes (parameters_at ns i)) in
      let l = parameters_long ns i in
      omega arith

  module _ (d : k ≡ 22 → ⊥) (e : k ≡ 6) where
    nicknames_at : get_or ns (i + 0) 0 ≡ get_or ns i 0
    nicknames_at = let z : i + 0 ≡ i = omega arith in ap (λ (n : ℕ). get_or ns n 0) z

    pub nicknames_step : length area < 2 ^ 64 → (n : ℕ) → n ≤ 1 → i + n < 2 ^ 64
    nicknames_step big n h = let x = (nicknames-counted d e).inside in omega arith

    pub nicknames_start : i < length ns
    nicknames_start =
        let x = (nicknames-counted d e).inside in
        let n = numbers_length area in
        omega arith

    module _ (m : ℕ) (em : m ≡ get_or ns i 0) where
      pub records_fit : 3 * m < 2 ^ 64
      records_fit =
          let x = (nicknames-counted d e).few in
          let z = nicknames_at in
          omega arith

      pub nicknames_fit : length area < 2 ^ 64 → (n : ℕ) → n ≤ 1 → i + n + 3 * m < 2 ^ 64
      nicknames_fit big n h =
          let x = (nicknames-counted d e).inside in
          let z = nicknames_at in
          omega arith

      pub nicknames_few : m ≤ 49
      nicknames_few =
          let x = (nicknames-counted d e).few in
          let z = nicknames_at in
          omega arith

      pub nicknames_bytes : 5 * m < 2 ^ 64
      nicknames_bytes = let x = nicknames_few in omega arith

      pub nicknames_size : (a : ℕ) → a ≤ 255 → a + 5 * m < 2 ^ 64
      nicknames_size a h = let x = nicknames_few in omega arith

      pub nicknames_end : i + 1 + 3 * m ≡ reach (take_sub k) ns i
      nicknames_end =
          let x = (nicknames-counted d e).ends in
          let z = nicknames_at in
          omega arith

      pub nicknames_long : 2 + 5 * m ≡ length (sub_bytes (sub_at k ns i))
      nicknames_long =
          let x = (nicknames-counted d e).long in
          let z = nicknames_at in
          omega arith

  module _ (d : k ≡ 22 → ⊥) (f : k ≡ 6 → ⊥) (e : k ≡ 8) where
    pub trees_step : length area < 2 ^ 64 → (n : ℕ) → n ≤ 2 → i + n < 2 ^ 64
    trees_step big n h = let x = (trees_counted d f e).inside in omega arith

    pub trees_start : i + 1 < length ns
    trees_start =
        let x = (trees_counted d f e).inside in
        let n = numbers_length area in
        omega arith

    module _ (m : ℕ) (em : m ≡ get_or ns (i + 1) 0) where
      pub trees_fit : length area < 2 ^ 64 → (n : ℕ) → n ≤ 2 → i + n + m < 2 ^ 64
      trees_fit big n h = let x = (trees_counted d f e).inside in omega arith

      pub trees_few : m ≤ 123
      trees_few = let x = (trees_counted d f e).few in omega arith

      pub trees_bytes : 2 * m < 2 ^ 64
      trees_bytes = let x = trees_few in omega arith

      pub trees_size : (a : ℕ) → a ≤ 255 → a + 2 * m < 2 ^ 64
      trees_size a h = let x = trees_few in omega arith

      pub trees_end : i + 2 + m ≡ reach (take_sub k) ns i
      trees_end = let x = (trees_counted d f e).ends in omega arith

      pub trees_long : 4 + 2 * m ≡ length (sub_bytes (sub_at k ns i))
      trees_long = let x = (trees_counted d f e).long in omega arith

  module _ (d : k ≡ 22 → ⊥) (f : k ≡ 6 → ⊥) (g : k ≡ 8 → ⊥) where
    pub macs_step : length area < 2 ^ 64 → (n : ℕ) → n ≤ 4 → i + n < 2 ^ 64
    macs_step big n h = let x = (macs-counted d f g).inside in omega arith

    pub macs_start : i + 3 < length ns
    macs_start =
        let x = (macs-counted d f g).inside in
        let n = numbers_length area in
        omega arith

    module _ (m : ℕ) (em : m ≡ get_or ns (i + 3) 0) where
      pub macs_fit : length area < 2 ^ 64 → (n : ℕ) → n ≤ 4 → i + n + m < 2 ^ 64
      macs_fit big n h = let x = (macs-counted d f g).inside in omega arith

      pub macs_few : m ≤ 41
      macs_few = let x = (macs-counted d f g).few in omega arith

      pub macs_bytes : 6 * m < 2 ^ 64
      macs_bytes = let x = macs_few in omega arith

      pub macs_size : (a : ℕ) → a ≤ 255 → a + 6 * m < 2 ^ 64
      macs_size a h = let x = macs_few in omega arith

      pub macs_end : i + 4 + m ≡ reach (take_sub k) ns i
      macs_end = let x = (macs-counted d f g).ends in omega arith

      pub macs_long : 6 + 6 * m ≡ length (sub_bytes (sub_at k ns i))
      macs_long = let x = (macs-counted d f g).long in omega arith

-- ---- the head of the TLV and the entry fit one TLV

module _ (k : ℕ) where
  pub alone_room : k ≡ 22 → length (head_of (holder_for k)) + 6 ≤ 255
  unfolding head_of pick either
  alone_room e = rw e (omega arith)

  pub nicknames_room : k ≡ 6 → (m : ℕ) → m ≤ 49 → length (head_of (holder_for k)) + (2 + 5 * m) ≤ 255
  unfolding head_of pick either
  nicknames_room e m h = rw e (omega arith)

  pub trees_room : k ≡ 8 → (m : ℕ) → m ≤ 123 → length (head_of (holder_for k)) + (4 + 2 * m) ≤ 255
  unfolding head_of pick either
  trees_room e m h = rw e (omega arith)

  -- what is left of the four types
  last_kind : (k ≡ 22 → ⊥) → (k ≡ 6 → ⊥) → (k ≡ 8 → ⊥) → has_section k ≡ true → k ≡ 23
  unfolding has_section either
  last_kind d f g s = eqb-true k 23 (other (eqb k 8) _ (ne_eqb k 8 g) (other (eqb k 6) _ (ne_eqb k 6 f) (other (eqb k 22) _ (ne_eqb k 22 d) s)))
    where
      other : (a b : Bool) → a ≡ false → either a b ≡ true → b ≡ true
      other a b e s = sym (ap (λ (c : Bool). either c b) e) ∙ s

  pub macs_room : (k ≡ 22 → ⊥) → (k ≡ 6 → ⊥) → (k ≡ 8 → ⊥) → has_section k ≡ true → (m : ℕ) → m ≤ 41 → length (head_of (holder_for k)) + (6 + 6 * m) ≤ 255
  unfolding head_of pick either
  macs_room d f g s m h = rw (last_kind d f g s) (omega arith)
