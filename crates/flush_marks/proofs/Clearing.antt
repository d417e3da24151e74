-- Laws of clearing by marks: a walk that clears and counts, and that it is clearing by the test that chose the marks.
-- Assumes nothing.
use Prim.Native.Nat.{ℕ, zero, suc, ◌+◌, ◌-◌, ◌*◌, ◌/◌, ◌%◌, ◌<◌, ◌≤◌}
use mathlib.Core.Bool.{Bool, true, false}
use mathlib.Core.List.{List}
use mathlib.Core.Path.{◌≡◌, refl, sym, ap, ◌∙◌}
use native.Mathlib.Decide.{ℕ_discrete}
use native.Mathlib.Nat.{add-zero, zero-add}
use native.Mathlib.Numerals.{add-one}
use native.Mathlib.Omega.{arith}
use lib.Dec.{eqb}
use lib.ListN.{length, take, drop, get_or, take-append-drop}
use borrow.Author.Tests.{eqb-true}
use Rattle.flush_bits.proofs.Laws.{every, every_at}
use Rattle.numbers.specs.Tests.{pick, both}
use Rattle.numbers.specs.Numberings.{bit_of, bit_at}
use Rattle.numbers.specs.After.{on_table}
use Rattle.numbers.specs.Bytes.{bytes_of}
use Rattle.table.specs.Slots.{slot_bytes, slots_of, slot_at, put_slot, freed, on_slots, count_slots}
use Rattle.table.proofs.Slots.{length-put_slot, drop-on_slots}
use Rattle.flush.specs.Flush.{cleared_slot, cleared_by}
use Rattle.flush.proofs.Flushing.{cleared_hit, cleared_miss, cleared_keeps}
use Rattle.flush_marks.specs.Marks.{Unmarked, NextMark, Chosen, count_marks, freed_marks, cleared_marks, AllMarked, freed_from, ClearedTo, cleared_in}
use Rattle.std.specs.Prelude.{Option, Some, None}

-- ---- slots without a mark

module _ (m : List ℕ) where
  count_skip : (d i : ℕ) → Unmarked m i (i + d) → count_marks m (i + d) ≡ count_marks m i
  unfolding count_marks pick
  count_skip zero i none = rw (add-zero i)
  count_skip (suc d) i none =
      let next : i + suc d ≡ suc (i + d) = omega arith in
      let before : Unmarked m i (i + d) = record { none = λ j a b. none.none j a (omega arith) } in
      rw (next, none.none (i + d) (omega arith) (omega arith), count_skip d i before) (add-zero (count_marks m i))

  freed_skip : (t : List ℕ) (d i : ℕ) → Unmarked m i (i + d) → freed_marks m (i + d) t ≡ freed_marks m i t
  unfolding freed_marks pick
  freed_skip t zero i none = rw (add-zero i)
  freed_skip t (suc d) i none =
      let next : i + suc d ≡ suc (i + d) = omega arith in
      let before : Unmarked m i (i + d) = record { none = λ j a b. none.none j a (omega arith) } in
      rw (next, none.none (i + d) (omega arith) (omega arith), freed_skip t d i before)

-- ---- the walk

freed_long : length freed ≡ slot_bytes
unfolding bytes_of
freed_long = refl

module _ (m t : List ℕ) where
  pub cleared_none : ClearedTo m t 0 0 t
  unfolding count_marks freed_marks
  cleared_none = record { count = refl; few = omega arith; long = refl; left = refl }

  module _ (i c : ℕ) (u : List ℕ) (so_far : ClearedTo m t i c u) where
    cleared_skip : (k : ℕ) → i ≤ k → Unmarked m i k → ClearedTo m t k c u
    cleared_skip k far none =
        let sum : i + (k - i) ≡ k = omega arith in
        let few = so_far.few in
        record {
          count = so_far.count ∙ sym (rw sum at (count_skip m (k - i) i (rw sum none)));
          few = omega arith;
          long = so_far.long;
          left = so_far.left ∙ sym (rw sum at (freed_skip m t (k - i) i (rw sum none)));
        }

    pub cleared_ends : i ≤ slots_of t → slots_of t ≤ i → on_table c u ≡ cleared_marks m t
    unfolding cleared_marks
    cleared_ends a b =
        let same : i ≡ slots_of t = omega arith in
        let count : c ≡ count_marks m (slots_of t) = so_far.count ∙ ap (count_marks m) same in
        let left : u ≡ freed_marks m (slots_of t) t = so_far.left ∙ ap (λ (n : ℕ). freed_marks m n t) same in
        cc

    -- a slot that is marked is cleared
    cleared_put : i < slots_of t → bit_at i m ≡ true → ClearedTo m t (i + 1) (c + 1) (put_slot i freed u)
    unfolding count_marks freed_marks pick
    cleared_put inside marked =
        let few = so_far.few in
        let long = so_far.long in
        record {
          count = rw (add-one i, marked, ← so_far.count);
          few = omega arith;
          long = length-put_slot i freed u (omega arith) freed_long ∙ long;
          left = rw (add-one i, marked, ← so_far.left);
        }

    pub cleared_next : i < slots_of t → (b : Bool) → b ≡ bit_at i m → b ≡ true → (v : List ℕ) → v ≡ put_slot i freed u → ClearedTo m t (i + 1) (c + 1) v
    cleared_next inside b is e v put = rw put (cleared_put inside (sym is ∙ e))

    -- from one that is not, to the next that is
    module _ (b : Bool) (is : b ≡ bit_at i m) (clear : b ≡ false) (p : Option ℕ) (next : NextMark m (i + 1) (slots_of t) p) where
      passed : (k : ℕ) → Unmarked m (i + 1) k → Unmarked m i k
      passed k none = record { none = λ j a l. go j a l (ℕ_discrete j i) }
        where
          go : (j : ℕ) → i ≤ j → j < k → Dec (j ≡ i) → bit_at j m ≡ false
          go j a l (yes q) = rw q (sym is ∙ clear)
          go j a l (no d) = none.none j (omega arith) l

      pub cleared_rest : i < slots_of t → p ≡ None → on_table c u ≡ cleared_marks m t
      unfolding cleared_marks
      cleared_rest h e =
          let s = cleared_skip (slots_of t) (omega arith) (passed (slots_of t) (next.miss e)) in
          let count : c ≡ count_marks m (slots_of t) = s.count in
          let left : u ≡ freed_marks m (slots_of t) t = s.left in
          cc

      cleared_far : (k : ℕ) → p ≡ Some k → (k ≤ slots_of t) × ClearedTo m t k c u
      cleared_far k e =
          let f = next.hit k e in
          let far = f.behind in
          let inside = f.within in
          (omega arith, cleared_skip k (omega arith) (passed k f.passed))

-- ---- slots that are all marked

module _ (k : ℕ) (t : List ℕ) where
  pub run_none : t ≡ freed_from k 0 t
  unfolding freed_from
  run_none = refl

  pub run_next : (i : ℕ) (u : List ℕ) → u ≡ freed_from k i t → (v : List ℕ) → v ≡ put_slot (k + i) freed u → v ≡ freed_from k (i + 1) t
  unfolding freed_from
  run_next i u so_far v put = put ∙ rw (so_far, add-one i)

module _ (m t : List ℕ) where
  cleared_run : (d i c : ℕ) (u : List ℕ) → ClearedTo m t i c u → AllMarked m i d (slots_of t) → ClearedTo m t (i + d) (c + d) (freed_from i d u)
  unfolding freed_from
  cleared_run zero i c u so_far all = rw (add-zero i, add-zero c) so_far
  cleared_run (suc d) i c u so_far all =
      let room = all.room in
      let slot : i + suc d ≡ i + d + 1 = omega arith in
      let count : c + suc d ≡ c + d + 1 = omega arith in
      let before : AllMarked m i d (slots_of t) = record { room = omega arith; each = λ j a b. all.each j a (omega arith) } in
      rw (slot, count) (cleared_put m t (i + d) (c + d) (freed_from i d u) (cleared_run d i c u so_far before) (omega arith) (all.each (i + d) (omega arith) (omega arith)))

  -- the next that is marked is cleared, after slots that are not
  pub cleared_found : (i c : ℕ) (u : List ℕ) → ClearedTo m t i c u → (b : Bool) → b ≡ bit_at i m → b ≡ false → (p : Option ℕ) → NextMark m (i + 1) (slots_of t) p → (k : ℕ) → p ≡ Some k → (v : List ℕ) → v ≡ put_slot k freed u → (k + 1 ≤ slots_of t) × ClearedTo m t (k + 1) (c + 1) v
  cleared_found i c u so_far b is clear p next k e v put =
      let f = next.hit k e in
      let inside = f.within in
      (omega arith, rw put (cleared_put m t k c u (cleared_far m t i c u so_far b is clear p next k e).1 inside f.marked))

  pub cleared_eight : (i c : ℕ) (u : List ℕ) → ClearedTo m t i c u → (b : Bool) → (b ≡ true → AllMarked m i 8 (slots_of t)) → b ≡ true → (v : List ℕ) → v ≡ freed_from i 8 u → ClearedTo m t (i + 8) (c + 8) v
  cleared_eight i c u so_far b told e v run = rw run (cleared_run 8 i c u so_far (told e))

-- a full byte
full : every 8 (bit_of 255) ≡ true
unfolding both bit_of
full = refl

pub byte_full : (m : List ℕ) (k n : ℕ) → (b : Bool) → b ≡ eqb (get_or m (k / 8) 0) 255 → k % 8 ≡ 0 → k + 8 ≤ n → b ≡ true → AllMarked m k 8 n
unfolding bit_at
byte_full m k n b told start room e = record {
  room = room;
  each = λ j low high.
      let byte : j / 8 ≡ k / 8 = omega arith in
      let value : get_or m (k / 8) 0 ≡ 255 = eqb-true _ _ (sym told ∙ e) in
      rw (byte, value) (every_at 8 (bit_of 255) full (j % 8) (omega arith));
}

-- ---- clearing by marks is clearing by the test that chose them

put_back : (u : List ℕ) (k : ℕ) → put_slot k (slot_at k u) u ≡ u
put_back u k = rw (take-append-drop slot_bytes (drop (slot_bytes * k) u)) (take-append-drop (slot_bytes * k) u)

-- the slot that is cleared next is still as it was
step_case : (meant : List ℕ → Bool) (k : ℕ) (u r : List ℕ) → slot_at k u ≡ r → (b : Bool) → b ≡ meant r → pick b (put_slot k freed u) u ≡ put_slot k (cleared_slot meant r) u
unfolding pick
step_case meant k u r same true e = rw (cleared_hit meant r (sym e))
step_case meant k u r same false e = rw (cleared_miss meant r (sym e), ← same) (sym (put_back u k))

module _ (meant : List ℕ → Bool) (from count : ℕ) (t m : List ℕ) (room : from + count ≤ slots_of t) (chosen : Chosen meant from count t m) where
  count-inside : (c : ℕ) → c ≤ count → count_marks m (from + c) ≡ count_slots meant from c t
  unfolding count_marks count_slots
  count-inside zero h = rw (add-zero from) (rw (zero-add from) at (count_skip m from 0 (record { none = λ j a b. chosen.below j (omega arith) })))
  count-inside (suc c) h =
      let next : from + suc c ≡ suc (from + c) = omega arith in
      rw (next, chosen.inside (from + c) (omega arith) (omega arith), count-inside c (omega arith))

  freed-inside : (c : ℕ) → c ≤ count → freed_marks m (from + c) t ≡ on_slots (cleared_slot meant) from c t
  unfolding freed_marks on_slots
  freed-inside zero h = rw (add-zero from) (rw (zero-add from) at (freed_skip m t from 0 (record { none = λ j a b. chosen.below j (omega arith) })))
  freed-inside (suc c) h =
      let next : from + suc c ≡ suc (from + c) = omega arith in
      let same : slot_at (from + c) (on_slots (cleared_slot meant) from c t) ≡ slot_at (from + c) t = ap (take slot_bytes) (drop-on_slots (cleared_slot meant) (cleared_keeps meant) t from c (omega arith)) in
      rw (next, freed-inside c (omega arith))
      (step_case meant (from + c) (on_slots (cleared_slot meant) from c t) (slot_at (from + c) t) same (bit_at (from + c) m) (chosen.inside (from + c) (omega arith) (omega arith)))

  above : Unmarked m (from + count) (from + count + (slots_of t - (from + count)))
  above = record { none = λ j a b. chosen.above j a (omega arith) }

  pub chosen_cleared : cleared_marks m t ≡ cleared_in meant from count t
  unfolding cleared_marks cleared_in
  chosen_cleared =
      let sum : from + count + (slots_of t - (from + count)) ≡ slots_of t = omega arith in
      let n = rw sum at (count_skip m (slots_of t - (from + count)) (from + count) above) in
      let u = rw sum at (freed_skip m t (slots_of t - (from + count)) (from + count) above) in
      rw (n, u, count-inside count (omega arith), freed-inside count (omega arith))

-- the whole table
pub cleared_whole : (meant : List ℕ → Bool) (t : List ℕ) → cleared_in meant 0 (slots_of t) t ≡ cleared_by meant t
unfolding cleared_in cleared_by
cleared_whole meant t = refl
