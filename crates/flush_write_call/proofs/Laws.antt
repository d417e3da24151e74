-- Laws of the writing call: what the tests leave known, the two forms of the message, and the ways out.
-- Assumes nothing.
use Prim.Native.Nat.{ℕ, zero, suc, ◌+◌, ◌-◌, ◌/◌, ◌%◌, ◌^◌, ◌<◌, ◌≤◌}
use mathlib.Core.Bool.{Bool, true, false, ◌&&◌}
use mathlib.Core.List.{List, [], ◌∷◌, ◌++◌, map, flat_map, append_assoc}
use mathlib.Core.Path.{◌≡◌, refl, sym, ap, ◌∙◌}
use native.Mathlib.Decide.{dec_lt}
use native.Mathlib.Omega.{arith}
use lib.Dec.{leb, eqb}
use lib.ListN.{length, drop, length-append, length-drop, length-map, take-append-drop}
use lib.Seq.{get_or-drop}
use borrow.Author.Tests.{le-leb, lt-leb, eqb-true, eqb-false, eq-eqb, ne_eqb}
use Rattle.numbers.specs.Tests.{pick, both}
use Rattle.numbers.specs.Result.{Outcome, check, and_then, settled}
use Rattle.numbers.specs.Ranges.{first_vlan, last_vlan, last_fine, last_address}
use Rattle.numbers.specs.After.{on_area}
use Rattle.numbers.specs.Bytes.{AreBytes, num, bytes_of, laid, parts}
use Rattle.numbers.proofs.Bytes.{bytes_of_part}
use Rattle.numbers.proofs.Truth.{and_both, both_true, false_true}
use Rattle.numbers.proofs.Parts.{parts_end, parts_more}
use Rattle.frame_copy.specs.Areas.{pasted}
use Rattle.frame_copy.proofs.Copying.{paste_next, paste_after, paste_laid}
use Rattle.convert.specs.Compaction.{written}
use Rattle.flush_write.specs.Writing.{labels_named, asked_good, blocks_bytes, nicks_bytes, only_vlans, flush_bytes, written_flush}
use Rattle.flush_write.specs.Areas.{blocks_in, nicks_in, asked_in, items_whole, areas_whole, flush_of, flush_written}
use Rattle.flush_write.specs.Claims.{tlvs_length}
use Rattle.flush_write.proofs.Bounds.{flush_length_lem, flush_most, short}
use Rattle.flush_write_lists.specs.Widths.{Item, Filling, list_good}
use Rattle.flush_write_lists.proofs.Cuts.{parts-count, blocks_count}
use Rattle.flush_write_lists.proofs.Laws.{length-pasted}
use Rattle.flush_write_call.specs.Steps.{lists_good, nicks_good, Sized, front_bytes, lists_bytes}
use Rattle.std.specs.Prelude.{Ok, Err}
use Rattle.numbers.specs.declared.refusals.Refusal.TheVariants.{AreaShort, ListsBad}
use Rattle.numbers.specs.declared.refusals.Refusal.{Refusal}

-- ---- the widths

pub item_2 : Item 2
item_2 = record { least = omega arith; most = omega arith; eight = λ a b. absurd (a refl) }

pub item_4 : Item 4
item_4 = record { least = omega arith; most = omega arith; eight = λ a b. absurd (b refl) }

pub item_8 : Item 8
item_8 = record { least = omega arith; most = omega arith; eight = λ a b. refl }

pub fill_vlans : Filling 2 2 252
fill_vlans = record { item = item_2; small = omega arith; some = omega arith; short = omega arith; full_is = refl }

pub fill_fines : Filling 4 3 336
fill_fines = record { item = item_4; small = omega arith; some = omega arith; short = omega arith; full_is = refl }

pub fill_macs : Filling 8 6 336
fill_macs = record { item = item_8; small = omega arith; some = omega arith; short = omega arith; full_is = refl }

-- ---- nicknames

nick_count : (ns : List ℕ) → length (nicks_in ns) ≡ length ns / 2
unfolding nicks_in
nick_count ns = length-map (parts 2 ns) num ∙ parts-count 2 (omega arith) ns

pub nicks_tell : (ns : List ℕ) → eqb (length ns % 2) 0 && leb (length ns / 2) 255 ≡ nicks_good ns
unfolding nicks_good items_whole
nicks_tell ns = rw (nick_count ns) (and_both (eqb (length ns % 2) 0) (leb (length ns / 2) 255))

no_bytes : (l : List ℕ) → length l ≤ 0 → [] ≡ l
no_bytes [] h = refl
no_bytes (x ∷ l) h = absurd (omega arith)

same_step : (l : List ℕ) → AreBytes l → length l % 2 ≡ 0 → Dec (length l < 2) → (2 ≤ length l → flat_map (bytes_of 2) (map num (parts 2 (drop 2 l))) ≡ drop 2 l)
    → flat_map (bytes_of 2) (map num (parts 2 l)) ≡ l
unfolding flat_map
same_step l bytes w (yes o) later = rw (parts_end 2 (omega arith) l o) (no_bytes l (omega arith))
same_step l bytes w (no o) later =
    rw (parts_more 2 (omega arith) l (omega arith), bytes_of_part l 2 bytes (omega arith), later (omega arith)) (take-append-drop 2 l)

same_from : (n : ℕ) (l : List ℕ) → length l ≤ n → AreBytes l → length l % 2 ≡ 0 → flat_map (bytes_of 2) (map num (parts 2 l)) ≡ l
same_from zero l h bytes w = same_step l bytes w (dec_lt (length l) 2) (λ o. absurd (omega arith))
same_from (suc n) l h bytes w =
    let d : length (drop 2 l) ≡ length l - 2 = length-drop 2 l in
    same_step l bytes w (dec_lt (length l) 2) (λ o. same_from n (drop 2 l) (omega arith) (λ i. rw (get_or-drop 2 l i 0) (bytes (2 + i))) (omega arith))

-- nicknames of two bytes are written as they lie in their area
nicks_same : (ns : List ℕ) → AreBytes ns → length ns % 2 ≡ 0 → nicks_bytes (nicks_in ns) ≡ ns
unfolding nicks_bytes nicks_in
nicks_same ns bytes w = same_from (length ns) ns (omega arith) bytes w

-- ---- the tests

both_false : (b : Bool) → both b false ≡ false
unfolding both
both_false true = refl
both_false false = refl

pub none_named_lem : (ns vs fs ms : List ℕ) → eqb (length vs) 0 && eqb (length fs) 0 ≡ true → false ≡ lists_good ns vs fs ms
unfolding lists_good asked_good labels_named both
none_named_lem ns vs fs ms e =
    let t = both_true (eqb (length vs) 0) (eqb (length fs) 0) (sym (and_both (eqb (length vs) 0) (eqb (length fs) 0)) ∙ e) in
    let v = eqb-true (length vs) 0 t.0 in
    let f = eqb-true (length fs) 0 t.1 in
    let c = blocks_count 2 (omega arith) vs in
    let d = blocks_count 4 (omega arith) fs in
    sym (rw (lt-leb 1 (length (blocks_in 2 vs) + length (blocks_in 4 fs)) (omega arith)) (both_false (areas_whole ns vs fs ms)))

-- the tests in the order of the lists: where the areas are whole, a label is named
in_order : (w x y z l n v f m : Bool) → (x ≡ true → y ≡ true → l ≡ true)
    → both (both w (both x (both y z))) (both l (both n (both v (both f m)))) ≡ both (both w n) (both (both x v) (both (both y f) (both z m)))
unfolding both
in_order false x y z l n v f m h = refl
in_order true false y z l true v f m h = refl
in_order true false y z l false v f m h = refl
in_order true true false z l true true f m h = refl
in_order true true false z l true false f m h = refl
in_order true true false z l false v f m h = refl
in_order true true true false l true true true m h = refl
in_order true true true false l true true false m h = refl
in_order true true true false l true false f m h = refl
in_order true true true false l false v f m h = refl
in_order true true true true l n v f m h = rw (h refl refl)

positive : (a : ℕ) → (a ≡ 0 → ⊥) → 0 < a
positive zero h = absurd (h refl)
positive (suc a) h = omega arith

-- one of two lengths is not 0
not_both : (a b : ℕ) → eqb a 0 && eqb b 0 ≡ false → (x y : ℕ) → (0 < a → 0 < x) → (0 < b → 0 < y) → 1 ≤ x + y
not_both a b e x y p q = go (eqb a 0) (eqb b 0) refl refl e
  where
    go : (c d : Bool) → eqb a 0 ≡ c → eqb b 0 ≡ d → c && d ≡ false → 1 ≤ x + y
    go true true g h n = false_true (sym n)
    go true false g h n = let z = eqb-false b 0 h in let r = q (positive b z) in omega arith
    go false d g h n = let z = eqb-false a 0 g in let r = p (positive a z) in omega arith

some_named : (vs fs : List ℕ) → eqb (length vs) 0 && eqb (length fs) 0 ≡ false → eqb (length vs % 4) 0 ≡ true → eqb (length fs % 8) 0 ≡ true
    → leb 1 (length (blocks_in 2 vs) + length (blocks_in 4 fs)) ≡ true
some_named vs fs e x y =
    let a = eqb-true (length vs % 4) 0 x in
    let b = eqb-true (length fs % 8) 0 y in
    let c = blocks_count 2 (omega arith) vs in
    let d = blocks_count 4 (omega arith) fs in
    le-leb 1 (length (blocks_in 2 vs) + length (blocks_in 4 fs)) (not_both (length vs) (length fs) e (length (blocks_in 2 vs)) (length (blocks_in 4 fs)) (λ o. omega arith) (λ o. omega arith))

pub all_tell : (ns vs fs ms : List ℕ) (n v f m : Bool) → eqb (length vs) 0 && eqb (length fs) 0 ≡ false
    → n ≡ nicks_good ns → v ≡ list_good 2 first_vlan last_vlan vs → f ≡ list_good 4 0 last_fine fs → m ≡ list_good 8 0 last_address ms
    → n && (v && (f && m)) ≡ lists_good ns vs fs ms
unfolding lists_good areas_whole asked_good labels_named nicks_good list_good items_whole
all_tell ns vs fs ms n v f m e a b c d =
    rw (and_both f m, and_both v (both f m), and_both n (both v (both f m)), a, b, c, d)
    (sym (in_order (eqb (length ns % 2) 0) (eqb (length vs % 4) 0) (eqb (length fs % 8) 0) (eqb (length ms % 16) 0) _ _ _ _ _ (some_named vs fs e)))

-- what the tests leave known
module _ (ns vs fs ms : List ℕ) (good : lists_good ns vs fs ms ≡ true) where
  tests : (areas_whole ns vs fs ms ≡ true) × (asked_good (asked_in ns vs fs ms) ≡ true)
  unfolding lists_good
  tests = both_true (areas_whole ns vs fs ms) (asked_good (asked_in ns vs fs ms)) good

  sized : Sized ns vs fs ms
  unfolding areas_whole items_whole
  sized =
      let s = short (asked_in ns vs fs ms) tests.1 in
      let p = both_true (eqb (length ns % 2) 0) _ tests.0 in
      let q = both_true (eqb (length vs % 4) 0) _ p.1 in
      let r = both_true (eqb (length fs % 8) 0) (eqb (length ms % 16) 0) q.1 in
      let a = nick_count ns in
      let b = blocks_count 2 (omega arith) vs in
      let c = blocks_count 4 (omega arith) fs in
      let d = blocks_count 8 (omega arith) ms in
      let an = s.nicks in
      let bn = s.vs in
      let cn = s.fs in
      let dn = s.ms in
      record {
        nicks = record { whole = eqb-true (length ns % 2) 0 p.0; few = omega arith };
        vlans = record { whole = eqb-true (length vs % 4) 0 q.0; few = omega arith };
        fines = record { whole = eqb-true (length fs % 8) 0 r.0; few = omega arith };
        macs = record { whole = eqb-true (length ms % 16) 0 r.1; few = omega arith };
      }

  small : length (flush_bytes (asked_in ns vs fs ms)) ≤ 6172
  small =
      let n = flush_length_lem (asked_in ns vs fs ms) in
      let m = flush_most (asked_in ns vs fs ms) (short (asked_in ns vs fs ms) tests.1) in
      omega arith

-- ---- the two forms

-- an area of whole items is empty exactly if it has none
none_there : (a b : ℕ) → (0 < a → 0 < b) → (a ≡ 0 → b ≡ 0) → (c : Bool) → eqb a 0 ≡ c → eqb b 0 ≡ c
none_there a b p q true e = eq-eqb b 0 (q (eqb-true a 0 e))
none_there a b p q false e = let o = p (positive a (eqb-false a 0 e)) in ne_eqb b 0 (λ z. omega arith)

module _ (ns vs fs ms : List ℕ) (known : Sized ns vs fs ms) where
  form_tells : only_vlans (asked_in ns vs fs ms) ≡ eqb (length fs) 0 && eqb (length ms) 0
  unfolding only_vlans
  form_tells =
      let c = blocks_count 4 (omega arith) fs in
      let d = blocks_count 8 (omega arith) ms in
      let f = known.fines.whole in
      let m = known.macs.whole in
      rw (
        none_there (length fs) (length (blocks_in 4 fs)) (λ o. omega arith) (λ o. omega arith) (eqb (length fs) 0) refl,
        none_there (length ms) (length (blocks_in 8 ms)) (λ o. omega arith) (λ o. omega arith) (eqb (length ms) 0) refl,
      ) (sym (and_both (eqb (length fs) 0) (eqb (length ms) 0)))

  pub block_length : eqb (length fs) 0 && eqb (length ms) 0 ≡ true → 2 + length ns + length vs ≡ length (flush_bytes (asked_in ns vs fs ms))
  unfolding pick
  block_length e =
      let a = nick_count ns in
      let b = blocks_count 2 (omega arith) vs in
      let n = known.nicks.whole in
      let v = known.vlans.whole in
      sym (flush_length_lem (asked_in ns vs fs ms) ∙ rw (form_tells, e) (omega arith))

  pub tlv_length_lem : eqb (length fs) 0 && eqb (length ms) 0 ≡ false → (r : ℕ) → r ≡ tlvs_length 2 (length vs / 4) + (tlvs_length 3 (length fs / 8) + tlvs_length 6 (length ms / 16))
      → 2 + length ns + r ≡ length (flush_bytes (asked_in ns vs fs ms))
  unfolding pick
  tlv_length_lem e r is =
      let a = nick_count ns in
      let n = known.nicks.whole in
      sym (flush_length_lem (asked_in ns vs fs ms) ∙ rw (form_tells, e, blocks_count 2 (omega arith) vs, blocks_count 4 (omega arith) fs, blocks_count 8 (omega arith) ms) (omega arith))

  module _ (bytes : AreBytes ns) where
    pub block_shape : eqb (length fs) 0 && eqb (length ms) 0 ≡ true → flush_bytes (asked_in ns vs fs ms) ≡ front_bytes ns (length vs / 4) ++ blocks_bytes 2 (blocks_in 2 vs)
    unfolding flush_bytes pick
    block_shape e =
        rw (form_tells, e, nick_count ns, nicks_same ns bytes known.nicks.whole, blocks_count 2 (omega arith) vs)
        (ap (λ (x : List ℕ). length ns / 2 ∷ x) (sym (append_assoc ns (length vs / 4 ∷ []) (blocks_bytes 2 (blocks_in 2 vs)))))

    pub tlv_shape : eqb (length fs) 0 && eqb (length ms) 0 ≡ false → flush_bytes (asked_in ns vs fs ms) ≡ front_bytes ns 0 ++ lists_bytes vs fs ms
    unfolding flush_bytes pick
    tlv_shape e =
        rw (form_tells, e, nick_count ns, nicks_same ns bytes known.nicks.whole)
        (ap (λ (x : List ℕ). length ns / 2 ∷ x) (sym (append_assoc ns (0 ∷ []) (lists_bytes vs fs ms))))

-- ---- the front, and a body

byte_one : (n : ℕ) → n < 256 → bytes_of 1 n ≡ n ∷ []
unfolding bytes_of
byte_one n h = let e : n / 256 ^ 0 % 256 ≡ n = omega arith in rw e

pub front_put : (ns out o₁ o₂ o₃ : List ℕ) (count : ℕ) → length ns ≤ 510 → count < 256
    → o₁ ≡ pasted out 0 (bytes_of 1 (length ns / 2)) → o₂ ≡ pasted o₁ 1 ns → o₃ ≡ pasted o₂ (1 + length ns) (bytes_of 1 count)
    → o₃ ≡ pasted out 0 (front_bytes ns count)
front_put ns out o₁ o₂ o₃ count h g w₁ w₂ w₃ =
    rw (w₃, w₂, w₁, byte_one (length ns / 2) (omega arith), byte_one count g)
    (ap (λ (x : List ℕ). pasted x (1 + length ns) (count ∷ [])) (paste_after out (length ns / 2 ∷ []) ns 1 (omega arith))
    ∙ paste_after out (length ns / 2 ∷ ns) (count ∷ []) (1 + length ns) (omega arith))

module _ (ns out x w : List ℕ) (count : ℕ) (shape : w ≡ front_bytes ns count ++ x) (room : length w ≤ length out) where
  front_length : length (front_bytes ns count) ≡ 2 + length ns
  front_length = let n = length-append ns (count ∷ []) in omega arith

  whole_length : length w ≡ 2 + length ns + length x
  whole_length =
      let a = ap length shape ∙ length-append (front_bytes ns count) x in
      let b = front_length in
      omega arith

  pub front_room : 2 + length ns ≤ length out
  front_room = let n = whole_length in omega arith

  module _ (o₁ : List ℕ) (a : ℕ) (w₁ : o₁ ≡ pasted out 0 (front_bytes ns count)) (end : a ≡ 2 + length ns) where
    pub body_room : a + length x ≤ length o₁
    body_room =
        let n = whole_length in
        let f = front_length in
        let l = ap length w₁ ∙ length-pasted out (front_bytes ns count) 0 (omega arith) in
        omega arith

    pub body_put : (o₂ : List ℕ) → o₂ ≡ pasted o₁ a x → o₂ ≡ laid w out
    body_put o₂ w₂ =
        let f = front_length in
        w₂
        ∙ ap (λ (y : List ℕ). pasted y a x) w₁
        ∙ paste_after out (front_bytes ns count) x a (omega arith)
        ∙ ap (pasted out 0) (sym shape)
        ∙ paste_laid out w

-- ---- the three lists

module _ (x y z out : List ℕ) (at : ℕ) (room : at + length (x ++ (y ++ z)) ≤ length out) where
  sum-length : length (x ++ (y ++ z)) ≡ length x + (length y + length z)
  sum-length =
      let a = length-append x (y ++ z) in
      let b = length-append y z in
      omega arith

  pub first_room : at + length x ≤ length out
  first_room = let n = sum-length in omega arith

  module _ (o₁ : List ℕ) (a : ℕ) (w₁ : o₁ ≡ pasted out at x) (e₁ : a ≡ at + length x) where
    same_1 : length o₁ ≡ length out
    same_1 = ap length w₁ ∙ length-pasted out x at first_room

    pub second_room : a + length y ≤ length o₁
    second_room =
        let n = sum-length in
        let l = same_1 in
        omega arith

    module _ (o₂ : List ℕ) (b : ℕ) (w₂ : o₂ ≡ pasted o₁ a y) (e₂ : b ≡ a + length y) where
      pub third_room : b + length z ≤ length o₂
      third_room =
          let n = sum-length in
          let l = same_1 in
          let m = ap length w₂ ∙ length-pasted o₁ y a second_room in
          omega arith

      pub three_put : (o₃ : List ℕ) → o₃ ≡ pasted o₂ b z → o₃ ≡ pasted out at (x ++ (y ++ z))
      three_put o₃ w₃ =
          let n = sum-length in
          let k = length-append x y in
          w₃
          ∙ ap (λ (o : List ℕ). pasted o b z) (w₂ ∙ ap (λ (o : List ℕ). pasted o a y) w₁ ∙ paste_next out x y at a (omega arith) (omega arith))
          ∙ paste_next out (x ++ y) z at b (omega arith) (omega arith)
          ∙ ap (pasted out at) (append_assoc x y z)

-- ---- the ways out of the call

check_both : {A : Type 0} (a b : Bool) (n : Refusal) (r : Outcome A) → check a n (check b n r) ≡ check (both a b) n r
unfolding check both
check_both true b n r = refl
check_both false b n r = refl

module _ (ns vs fs ms out : List ℕ) where
  flush_of_lem : flush_of ns vs fs ms ≡ check (lists_good ns vs fs ms) ListsBad (Ok (flush_bytes (asked_in ns vs fs ms)))
  unfolding flush_of written_flush lists_good
  flush_of_lem = check_both (areas_whole ns vs fs ms) (asked_good (asked_in ns vs fs ms)) ListsBad (Ok (flush_bytes (asked_in ns vs fs ms)))

  call_bad : lists_good ns vs fs ms ≡ false → on_area (Err ListsBad) out ≡ flush_written ns vs fs ms out
  unfolding flush_written check and_then settled
  call_bad e = rw (flush_of_lem, e)

  module _ (good : lists_good ns vs fs ms ≡ true) (n : ℕ) (long : n ≡ length (flush_bytes (asked_in ns vs fs ms))) where
    call_short : length out < n → on_area (Err AreaShort) out ≡ flush_written ns vs fs ms out
    unfolding flush_written check and_then settled written
    call_short h = rw (flush_of_lem, good, ← long, lt-leb n (length out) h)

    call_written : n ≤ length out → (o : List ℕ) → o ≡ laid (flush_bytes (asked_in ns vs fs ms)) out → on_area (Ok n) o ≡ flush_written ns vs fs ms out
    unfolding flush_written check and_then settled written
    call_written h o e = rw (flush_of_lem, good, ← long, le-leb n (length out) h, e)

-- the same, with the answer g of the tests
good_was : (g b : Bool) → g ≡ b → g ≡ true → b ≡ true
good_was true b e h = sym e
good_was false b e h = false_true h

bad_was : (g b : Bool) → g ≡ b → g ≡ false → b ≡ false
bad_was true b e h = false_true (sym h)
bad_was false b e h = sym e

module _ (ns vs fs ms : List ℕ) (g : Bool) (is : g ≡ lists_good ns vs fs ms) where
  pub bad_way : g ≡ false → (out : List ℕ) → on_area (Err ListsBad) out ≡ flush_written ns vs fs ms out
  bad_way h out = call_bad ns vs fs ms out (bad_was g (lists_good ns vs fs ms) is h)

  module _ (left : g ≡ true) where
    was : lists_good ns vs fs ms ≡ true
    was = good_was g (lists_good ns vs fs ms) is left

    pub sized_way : Sized ns vs fs ms
    sized_way = sized ns vs fs ms was

    pub small_way : length (flush_bytes (asked_in ns vs fs ms)) ≤ 6172
    small_way = small ns vs fs ms was

    pub short_way : (out : List ℕ) (n : ℕ) → n ≡ length (flush_bytes (asked_in ns vs fs ms)) → length out < n → on_area (Err AreaShort) out ≡ flush_written ns vs fs ms out
    short_way out n long h = call_short ns vs fs ms out was n long h

    pub written_way : (out : List ℕ) (n : ℕ) → n ≡ length (flush_bytes (asked_in ns vs fs ms)) → n ≤ length out → (o : List ℕ) → o ≡ laid (flush_bytes (asked_in ns vs fs ms)) out
        → on_area (Ok n) o ≡ flush_written ns vs fs ms out
    written_way out n long h o e = call_written ns vs fs ms out was n long h o e
