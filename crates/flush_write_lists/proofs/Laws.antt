-- Laws of writing one part after the other: what is left, with a cursor.
-- Assumes nothing.
use Prim.Native.Nat.{ℕ, suc, min, ◌+◌, ◌-◌, ◌*◌, ◌/◌, ◌%◌, ◌^◌, ◌<◌, ◌≤◌}
use mathlib.Core.Bool.{Bool, true, false, ◌&&◌}
use mathlib.Core.List.{List, [], ◌∷◌, ◌++◌, flat_map, append-nil}
use mathlib.Core.Path.{◌≡◌, refl, sym, ap, ◌∙◌, subst}
use native.Mathlib.Decide.{dec_lt}
use native.Mathlib.Nat.{mul_comm, suc-mul, zero-mul, mul-le-mul_left, mul-le-mul_right}
use native.Mathlib.Omega.{arith}
use lib.Dec.{leb, eqb}
use lib.ListN.{length, take, drop, length-append, length-drop, length-take, take-append-drop, drop_of_length-le}
use lib.Seq.{drop-drop, take_all, length-take-le}
use borrow.Author.Tests.{le-leb, lt-leb, eqb-true, ne_eqb, eq-eqb}
use Rattle.numbers.specs.Tests.{both, all_of}
use Rattle.numbers.specs.Bytes.{AreBytes, num, bytes_of}
use Rattle.numbers.specs.declared.Numbering.{Numbering}
use Rattle.numbers.proofs.Bytes.{length-bytes_of, num-add, num_part_lt, bytes_of_low}
use Rattle.numbers.proofs.Truth.{and_both, both_true}
use Rattle.frame_copy.specs.Areas.{pasted}
use Rattle.frame_copy.proofs.Copying.{paste_next}
use Rattle.flush_write.specs.Writing.{Block, most_listed, block_good, blocks_good, block_bytes, blocks_bytes, per_tlv, tlv_bytes, tlvs_bytes}
use Rattle.flush_write.specs.Areas.{block_in, blocks_in, items_whole}
use Rattle.flush_write.proofs.Blocks.{length_block, length_blocks}
use Rattle.flush_write_lists.specs.Widths.{Item, Filling, list_good}
use Rattle.flush_write_lists.proofs.Cuts.{blocks_end, blocks_more, blocks_count, blocks_take, tlvs_step, tlvs_none}

some_item : (k : ℕ) → Item k → 0 < k
some_item k item = let o = item.least in omega arith

-- ---- whether a list is good

pub block_tells : (l : List ℕ) (at k low high s e : ℕ) → s ≡ num (take k (drop at l)) → e ≡ num (take k (drop (at + k) l))
    → leb low s && (leb s e && leb e high) ≡ block_good low high (block_in k (drop at l))
unfolding block_good block_in
block_tells l at k low high s e start end =
    rw (drop-drop k at l, ← start, ← end, and_both (leb s e) (leb e high), and_both (leb low s) (both (leb s e) (leb e high)))

pub not_whole : (k low high : ℕ) (l : List ℕ) → (length l % (2 * k) ≡ 0 → ⊥) → false ≡ list_good k low high l
unfolding list_good items_whole both
not_whole k low high l h = rw (ne_eqb (length l % (2 * k)) 0 h)

pub too_many : (k low high : ℕ) → Item k → (l : List ℕ) → length l % (2 * k) ≡ 0 → 255 < length l / (2 * k) → false ≡ list_good k low high l
unfolding list_good items_whole both blocks_good
too_many k low high item l w h = rw (eq-eqb (length l % (2 * k)) 0 w, blocks_count k (some_item k item) l, lt-leb (length l / (2 * k)) most_listed h)

-- the list is good exactly if the blocks so far are, and the others
abbrev pub Judged : ℕ → ℕ → ℕ → List ℕ → ℕ → Bool → Type 0
Judged k low high l at good = list_good k low high l ≡ both good (all_of (block_good low high) (blocks_in k (drop at l)))

judge_start : (k low high : ℕ) → Item k → (l : List ℕ) → length l % (2 * k) ≡ 0 → length l / (2 * k) ≤ 255 → Judged k low high l 0 true
unfolding list_good items_whole both blocks_good
judge_start k low high item l w h = rw (eq-eqb (length l % (2 * k)) 0 w, blocks_count k (some_item k item) l, le-leb (length l / (2 * k)) most_listed h)

both_and : (a b c : Bool) → both a (both b c) ≡ both (a && b) c
unfolding both
both_and true b c = refl
both_and false b c = refl

both_true_right : (a : Bool) → both a true ≡ a
unfolding both
both_true_right true = refl
both_true_right false = refl

module _ (k low high : ℕ) (item : Item k) (l : List ℕ) (at : ℕ) (good : Bool) (inv : Judged k low high l at good) where
  judge_next : 2 * k ≤ length l - at → (b : Bool) → b ≡ block_good low high (block_in k (drop at l)) → Judged k low high l (at + 2 * k) (good && b)
  unfolding all_of
  judge_next h b e =
      let d : length (drop at l) ≡ length l - at = length-drop at l in
      inv ∙ rw (blocks_more k (some_item k item) (drop at l) (omega arith), drop-drop (2 * k) at l, ← e) (both_and good b _)

  judge_end : length l - at < 2 * k → good ≡ list_good k low high l
  unfolding all_of
  judge_end h =
      let d : length (drop at l) ≡ length l - at = length-drop at l in
      sym (inv ∙ rw (blocks_end k (some_item k item) (drop at l) (omega arith)) (both_true_right good))

-- the same, by the number of the block
block_room : (k n i : ℕ) → i < n / (2 * k) → i * (2 * k) + 2 * k ≤ n
block_room k n i h = let m : suc i * (2 * k) ≤ n / (2 * k) * (2 * k) = mul-le-mul_right (2 * k) h in let t = suc-mul i (2 * k) in omega arith

last_short : (k n i : ℕ) → 0 < k → n / (2 * k) ≤ i → n - i * (2 * k) < 2 * k
last_short k n i some h = let m : n / (2 * k) * (2 * k) ≤ i * (2 * k) = mul-le-mul_right (2 * k) h in omega arith

pub blocks_judged : (k low high : ℕ) → Item k → (l : List ℕ) → length l % (2 * k) ≡ 0 → length l / (2 * k) ≤ 255 → Judged k low high l (0 * (2 * k)) true
blocks_judged k low high item l w h = rw (zero-mul (2 * k)) (judge_start k low high item l w h)

module _ (k low high : ℕ) (item : Item k) (l : List ℕ) (i : ℕ) (good : Bool) (inv : Judged k low high l (i * (2 * k)) good) where
  pub judged_more : i < length l / (2 * k) → (b : Bool) → b ≡ block_good low high (block_in k (drop (i * (2 * k)) l)) → Judged k low high l ((i + 1) * (2 * k)) (good && b)
  judged_more h b e =
      let room = block_room k (length l) i h in
      let next : i * (2 * k) + 2 * k ≡ (i + 1) * (2 * k) = omega arith in
      rw next at (judge_next k low high item l (i * (2 * k)) good inv (omega arith) b e)

  pub judged_all : length l / (2 * k) ≤ i → good ≡ list_good k low high l
  judged_all h = judge_end k low high item l (i * (2 * k)) good inv (last_short k (length l) i (some_item k item) h)

-- ---- what is left to write

paste_none : (o : List ℕ) (a : ℕ) → pasted o a [] ≡ o
unfolding pasted
paste_none o a = let e : a + 0 ≡ a = omega arith in rw (e, append-nil (take a o)) (take-append-drop a o)

pub length-pasted : (o b : List ℕ) (a : ℕ) → a + length b ≤ length o → length (pasted o a b) ≡ length o
unfolding pasted
length-pasted o b a h =
    let x = length-append (take a o ++ b) (drop (a + length b) o) in
    let y = length-append (take a o) b in
    let t = length-take-le a o (omega arith) in
    let d : length (drop (a + length b) o) ≡ length o - (a + length b) = length-drop (a + length b) o in
    omega arith

-- rest, written at `to`, makes of the area what the whole, written at `at`, made of the area that came in
pub record Left (out₀ : List ℕ) (at : ℕ) (whole out : List ℕ) (to : ℕ) (rest : List ℕ) : Type 0 where
  pub same : length out ≡ length out₀
  pub makes : pasted out to rest ≡ pasted out₀ at whole
  pub ends : to + length rest ≡ at + length whole

left_start : (out : List ℕ) (at : ℕ) (whole : List ℕ) → Left out at whole out at whole
left_start out at whole = record { same = refl; makes = refl; ends = refl }

module _ (out₀ : List ℕ) (at : ℕ) (whole out : List ℕ) (to : ℕ) (rest : List ℕ) (room : at + length whole ≤ length out₀) (left : Left out₀ at whole out to rest) where
  left_room : (b r : List ℕ) → rest ≡ b ++ r → to + length b ≤ length out
  left_room b r e =
      let n = ap length e ∙ length-append b r in
      let s = left.same in
      let t = left.ends in
      omega arith

  left_next : (b r o : List ℕ) → rest ≡ b ++ r → o ≡ pasted out to b → Left out₀ at whole o (to + length b) r
  left_next b r o e w =
      let long = ap length w ∙ length-pasted out b to (left_room b r e) in
      let n = ap length e ∙ length-append b r in
      let s = left.same in
      let t = left.ends in
      record {
        same = omega arith;
        makes = ap (λ (x : List ℕ). pasted x (to + length b) r) w ∙ paste_next out b r to (to + length b) (omega arith) refl ∙ ap (pasted out to) (sym e) ∙ left.makes;
        ends = omega arith;
      }

  left_end : rest ≡ [] → (out ≡ pasted out₀ at whole) × (to ≡ at + length whole)
  left_end e =
      let n = ap length e in
      let t = left.ends in
      (sym (paste_none out to) ∙ ap (pasted out to) (sym e) ∙ left.makes, omega arith)

-- ---- blocks

abbrev pub blocks_from : ℕ → ℕ → List ℕ → ℕ → List ℕ
blocks_from k size l from = blocks_bytes size (blocks_in k (drop from l))

abbrev sized : ℕ → Numbering
sized size = record { size = size; modulus = 0; low = 0; high = 0 }

length-one : (size : ℕ) (b : Block) → length (block_bytes size b) ≡ 2 * size
length-one size b = length_block (sized size) b

pub pair_put : (l out o₁ o₂ : List ℕ) (from k size at : ℕ) → at + 2 * size ≤ length out
    → o₁ ≡ pasted out at (bytes_of size (num (take k (drop from l)))) → o₂ ≡ pasted o₁ (at + size) (bytes_of size (num (take k (drop (from + k) l))))
    → o₂ ≡ pasted out at (block_bytes size (block_in k (drop from l)))
unfolding block_bytes block_in
pair_put l out o₁ o₂ from k size at room w₁ w₂ =
    let start : ℕ = num (take k (drop from l)) in
    let end : ℕ = num (take k (drop (from + k) l)) in
    let n = length-bytes_of size start in
    rw (w₂, w₁, drop-drop k from l) (paste_next out (bytes_of size start) (bytes_of size end) at (at + size) (omega arith) (omega arith))

-- the widths of a MAC
pub both_same : (a b c d : ℕ) → eqb a b && eqb c d ≡ true → (a ≡ b) × (c ≡ d)
both_same a b c d e = let p = both_true _ _ (sym (and_both (eqb a b) (eqb c d)) ∙ e) in (eqb-true a b p.0, eqb-true c d p.1)

-- the last six of eight bytes
pub last_six : (l : List ℕ) (from : ℕ) → from + 8 ≤ length l → bytes_of 6 (num (take 6 (drop (from + 2) l))) ≡ bytes_of 6 (num (take 8 (drop from l)))
last_six l from h = sym (ap (bytes_of 6) (num-add l from 2 6 h) ∙ bytes_of_low 6 (num (take 2 (drop from l))) (num (take 6 (drop (from + 2) l))))

-- two numbers of two bytes in one of four
module _ (l : List ℕ) (at : ℕ) (bytes : AreBytes l) (h : at + 4 ≤ length l) (v : ℕ) (is : v ≡ num (take 4 (drop at l))) where
  low_two : num (take 2 (drop (at + 2) l)) < 256 ^ 2
  low_two = num_part_lt l (at + 2) 2 bytes (omega arith)

  pub first_two : v / 0x10000 ≡ num (take 2 (drop at l))
  first_two = let small = low_two in let split = is ∙ num-add l at 2 2 h in omega (arith, small, split)

  pub second_two : v % 0x10000 ≡ num (take 2 (drop (at + 2) l))
  second_two = let small = low_two in let split = is ∙ num-add l at 2 2 h in omega (arith, small, split)

module _ (k size : ℕ) (item : Item k) (l : List ℕ) (from : ℕ) where
  blocks_left : 2 * k ≤ length l - from → blocks_from k size l from ≡ block_bytes size (block_in k (drop from l)) ++ blocks_from k size l (from + 2 * k)
  unfolding blocks_bytes flat_map
  blocks_left h =
      let d : length (drop from l) ≡ length l - from = length-drop from l in
      rw (blocks_more k (some_item k item) (drop from l) (omega arith), drop-drop (2 * k) from l)

  blocks_none : length l - from < 2 * k → blocks_from k size l from ≡ []
  unfolding blocks_bytes flat_map
  blocks_none h =
      let d : length (drop from l) ≡ length l - from = length-drop from l in
      rw (blocks_end k (some_item k item) (drop from l) (omega arith))

-- the blocks from `from` on are left, and go to `to`
pub record Blocking (l : List ℕ) (k size : ℕ) (out₀ : List ℕ) (at : ℕ) (out : List ℕ) (from to : ℕ) : Type 0 where
  pub item : Item k
  pub inside : from ≤ length l
  pub room : at + length (blocks_bytes size (blocks_in k l)) ≤ length out₀
  pub left : Left out₀ at (blocks_bytes size (blocks_in k l)) out to (blocks_from k size l from)

pub blocks_start : (l : List ℕ) (k size : ℕ) (out : List ℕ) (at : ℕ) → Item k → at + length (blocks_bytes size (blocks_in k l)) ≤ length out → Blocking l k size out at out 0 at
blocks_start l k size out at item room = record { item = item; inside = omega arith; room = room; left = left_start out at (blocks_bytes size (blocks_in k l)) }

module _ (l : List ℕ) (k size : ℕ) (out₀ : List ℕ) (at : ℕ) (out : List ℕ) (from to : ℕ) (b : Blocking l k size out₀ at out from to) where
  pub blocks_inside : 2 * k ≤ length l - from → from + 2 * k ≤ length l
  blocks_inside h = let i = b.inside in omega arith

  pub blocks_room : 2 * k ≤ length l - from → to + 2 * size ≤ length out
  blocks_room h =
      let n = length-one size (block_in k (drop from l)) in
      let r = left_room out₀ at _ out to _ b.room b.left (block_bytes size (block_in k (drop from l))) _ (blocks_left k size b.item l from h) in
      omega arith

  pub blocks_next : 2 * k ≤ length l - from → (o : List ℕ) → o ≡ pasted out to (block_bytes size (block_in k (drop from l))) → Blocking l k size out₀ at o (from + 2 * k) (to + 2 * size)
  blocks_next h o w =
      let i = b.inside in
      let n = left_next out₀ at (blocks_bytes size (blocks_in k l)) out to (blocks_from k size l from) b.room b.left (block_bytes size (block_in k (drop from l))) (blocks_from k size l (from + 2 * k)) o (blocks_left k size b.item l from h) w in
      record {
        item = b.item;
        inside = omega arith;
        room = b.room;
        left = subst (λ (m : ℕ). Left out₀ at (blocks_bytes size (blocks_in k l)) o (to + m) (blocks_from k size l (from + 2 * k))) (length-one size (block_in k (drop from l))) n;
      }

  pub blocks_done : length l - from < 2 * k → out ≡ pasted out₀ at (blocks_bytes size (blocks_in k l))
  blocks_done h = (left_end out₀ at _ out to _ b.room b.left (blocks_none k size b.item l from h)).0

-- ---- TLVs

-- the length of a TLV's value, from that of the list
pub value_length : (k size : ℕ) → Item k → (l : List ℕ) → length l / (2 * k) * (2 * size) ≡ length (blocks_bytes size (blocks_in k l))
value_length k size item l =
    let n = length_blocks (sized size) (blocks_in k l) in
    let c = blocks_count k (some_item k item) l in
    rw (← c) (mul_comm (length (blocks_in k l)) (2 * size) ∙ sym n)

pub tlv_length_lem : (kind : ℕ) (v : List ℕ) → length (tlv_bytes kind v) ≡ 2 + length v
unfolding tlv_bytes
tlv_length_lem kind v = omega arith

header : (kind n : ℕ) → kind < 256 → n < 256 → bytes_of 2 (kind * 256 + n) ≡ kind ∷ (n ∷ [])
unfolding bytes_of
header kind n h g =
    let a : (kind * 256 + n) / 256 ^ 1 % 256 ≡ kind = omega arith in
    let b : (kind * 256 + n) / 256 ^ 0 % 256 ≡ n = omega arith in
    rw (a, b)

pub tlv_put : (out o₁ o₂ v : List ℕ) (at kind n : ℕ) → kind < 256 → length v < 256 → n ≡ length v → at + length (tlv_bytes kind v) ≤ length out
    → o₁ ≡ pasted out at (bytes_of 2 (kind * 256 + n)) → o₂ ≡ pasted o₁ (at + 2) v
    → (o₂ ≡ pasted out at (tlv_bytes kind v)) × (at + 2 + n ≡ at + length (tlv_bytes kind v))
unfolding tlv_bytes
tlv_put out o₁ o₂ v at kind n h g e room w₁ w₂ = (
  rw (w₂, w₁, e, header kind (length v) h g) (paste_next out (kind ∷ (length v ∷ [])) v at (at + 2) (omega arith) (omega arith)),
  omega arith,
)

abbrev pub tlvs_from : ℕ → ℕ → ℕ → List ℕ → ℕ → List ℕ
tlvs_from kind size k l from = tlvs_bytes kind size (blocks_in k (drop from l))

drop_past : (n : ℕ) (l : List ℕ) → length l ≤ n → drop n l ≡ []
drop_past n l h = drop_of_length-le l h

-- the smaller of what fills a TLV and what is left
cut_alike : (full n : ℕ) (l : List ℕ) → Dec (length l < full) → n ≡ min full (length l) → (take full l ≡ take n l) × ((drop full l ≡ drop n l) × (n ≤ length l))
cut_alike full n l (yes h) m =
    let e : n ≡ length l = omega arith in (
      take_all full l (omega arith) ∙ sym (take_all n l (omega arith)),
      (drop_past full l (omega arith) ∙ sym (drop_past n l (omega arith)), omega arith),
    )
cut_alike full n l (no h) m =
    let e : n ≡ full = omega arith in
    rw e (refl, (refl, omega arith))

module _ (kind size k full : ℕ) (fill : Filling k size full) (l : List ℕ) (from n : ℕ) (is : n ≡ min full (length l - from)) where
  smaller_cut : (take full (drop from l) ≡ take n (drop from l)) × ((drop full (drop from l) ≡ drop n (drop from l)) × (n ≤ length (drop from l)))
  smaller_cut =
      let d : length (drop from l) ≡ length l - from = length-drop from l in
      cut_alike full n (drop from l) (dec_lt (length (drop from l)) full) (rw d is)

  pub cut_inside : from ≤ length l → n ≤ length l - from
  cut_inside h =
      let d : length (drop from l) ≡ length l - from = length-drop from l in
      let m = smaller_cut.1.1 in
      omega arith

  pub cut_some : 2 * k ≤ length l - from → 0 < n
  cut_some h =
      let o = fill.item.least in
      let f = fill.full_is in
      let q : 1 * (2 * k) ≤ per_tlv size * (2 * k) = mul-le-mul_right (2 * k) fill.some in
      omega arith

  pub tlvs_left : 2 * k ≤ length l - from → tlvs_from kind size k l from ≡ tlv_bytes kind (blocks_bytes size (blocks_in k (take n (drop from l)))) ++ tlvs_from kind size k l (from + n)
  tlvs_left h =
      let d : length (drop from l) ≡ length l - from = length-drop from l in
      let c = smaller_cut in
      tlvs_step kind size k (some_item k fill.item) fill.some (drop from l) (omega arith)
      ∙ rw (← fill.full_is, c.0, c.1.0, drop-drop n from l)

  pub value_short : length (blocks_bytes size (blocks_in k (take n (drop from l)))) < 256
  value_short =
      let b = length_blocks (sized size) (blocks_in k (take n (drop from l))) in
      let t = ap (λ (x : List ℕ). length (blocks_in k x)) (sym smaller_cut.0 ∙ ap (λ (m : ℕ). take m (drop from l)) fill.full_is) ∙ ap length (blocks_take k (some_item k fill.item) (per_tlv size) (drop from l)) in
      let m = length-take (per_tlv size) (blocks_in k (drop from l)) in
      let s = fill.short in
      let q : 2 * size * length (blocks_in k (take n (drop from l))) ≤ 2 * size * per_tlv size = mul-le-mul_left (2 * size) (omega arith) in
      omega arith

-- the TLVs of the list from `from` on are left, and go to `to`
pub record Tlving (l : List ℕ) (k size full kind : ℕ) (out₀ : List ℕ) (at : ℕ) (out : List ℕ) (from to : ℕ) : Type 0 where
  pub fill : Filling k size full
  pub byte : kind < 256
  pub inside : from ≤ length l
  pub room : at + length (tlvs_bytes kind size (blocks_in k l)) ≤ length out₀
  pub left : Left out₀ at (tlvs_bytes kind size (blocks_in k l)) out to (tlvs_from kind size k l from)

pub tlvs_start : (l : List ℕ) (k size full kind : ℕ) (out : List ℕ) (at : ℕ) → Filling k size full → kind < 256 → at + length (tlvs_bytes kind size (blocks_in k l)) ≤ length out → Tlving l k size full kind out at out 0 at
tlvs_start l k size full kind out at fill byte room =
    record { fill = fill; byte = byte; inside = omega arith; room = room; left = left_start out at (tlvs_bytes kind size (blocks_in k l)) }

module _ (l : List ℕ) (k size full kind : ℕ) (out₀ : List ℕ) (at : ℕ) (out : List ℕ) (from to : ℕ) (t : Tlving l k size full kind out₀ at out from to) where
  tlvs_done_lem : length l - from < 2 * k → (out ≡ pasted out₀ at (tlvs_bytes kind size (blocks_in k l))) × (to ≡ at + length (tlvs_bytes kind size (blocks_in k l)))
  tlvs_done_lem h =
      let d : length (drop from l) ≡ length l - from = length-drop from l in
      left_end out₀ at _ out to _ t.room t.left (tlvs_none kind size k (some_item k t.fill.item) (drop from l) (omega arith))

  pub tlvs-area : length l - from < 2 * k → out ≡ pasted out₀ at (tlvs_bytes kind size (blocks_in k l))
  tlvs-area h = (tlvs_done_lem h).0

  pub tlvs_end : length l - from < 2 * k → to ≡ at + length (tlvs_bytes kind size (blocks_in k l))
  tlvs_end h = (tlvs_done_lem h).1

  module _ (h : 2 * k ≤ length l - from) (n : ℕ) (is : n ≡ min full (length l - from)) where
    pub part_inside : from + n ≤ length l
    part_inside =
        let i = t.inside in
        let c = cut_inside kind size k full t.fill l from n is i in
        omega arith

    pub part_some : 0 < n
    part_some = cut_some kind size k full t.fill l from n is h

    module _ (p : List ℕ) (part : p ≡ take n (drop from l)) where
      pub tlv_requires : ((Item k × (size ≤ 6)) × ((kind < 256) × (length (blocks_bytes size (blocks_in k p)) < 256))) × (to + length (tlv_bytes kind (blocks_bytes size (blocks_in k p))) ≤ length out)
      tlv_requires =
          rw part (
            ((t.fill.item, t.fill.small), (t.byte, value_short kind size k full t.fill l from n is)),
            left_room out₀ at (tlvs_bytes kind size (blocks_in k l)) out to (tlvs_from kind size k l from) t.room t.left (tlv_bytes kind (blocks_bytes size (blocks_in k (take n (drop from l))))) (tlvs_from kind size k l (from + n)) (tlvs_left kind size k full t.fill l from n is h),
          )

      pub tlvs_next : (o : List ℕ) (e : ℕ) → o ≡ pasted out to (tlv_bytes kind (blocks_bytes size (blocks_in k p))) → e ≡ to + length (tlv_bytes kind (blocks_bytes size (blocks_in k p))) → Tlving l k size full kind out₀ at o (from + n) e
      tlvs_next o e w ends =
          let i = part_inside in
          record {
            fill = t.fill;
            byte = t.byte;
            inside = omega arith;
            room = t.room;
            left = subst (λ (m : ℕ). Left out₀ at (tlvs_bytes kind size (blocks_in k l)) o m (tlvs_from kind size k l (from + n))) (sym ends)
                (left_next out₀ at (tlvs_bytes kind size (blocks_in k l)) out to (tlvs_from kind size k l from) t.room t.left (tlv_bytes kind (blocks_bytes size (blocks_in k p))) (tlvs_from kind size k l (from + n)) o
                (rw part (tlvs_left kind size k full t.fill l from n is h)) w);
          }
