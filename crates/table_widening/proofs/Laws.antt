-- Laws of widening, from facts as the code finds them.
-- Assumes nothing.
use Prim.Native.Nat.{ℕ, ◌+◌, ◌-◌, ◌*◌, ◌%◌, ◌^◌, ◌<◌, ◌≤◌}
use mathlib.Core.Bool.{Bool, true, false}
use mathlib.Core.List.{List, [], ◌∷◌, ◌++◌, append_assoc}
use mathlib.Core.Path.{◌≡◌, refl, sym, ap, ◌∙◌}
use native.Mathlib.Numerals.{add-one}
use native.Mathlib.Omega.{arith}
use lib.ListN.{length, take, drop, length-drop, length-append}
use lib.Seq.{get_or-drop, take_at, drop-append-add, drop-drop, length-take-le}
use borrow.Author.Tests.{le-leb, lt-leb}
use Rattle.numbers.specs.Tests.{between}
use Rattle.numbers.specs.Result.{check, settled}
use Rattle.numbers.specs.After.{on_area}
use Rattle.numbers.specs.Bytes.{AreBytes, num, laid, bytes_of}
use Rattle.numbers.proofs.Bytes.{length_part, num-add, num_part_lt, bytes_of_part, bytes_of_join}
use Rattle.numbers.proofs.Truth.{both_true, between_is}
use Rattle.table.specs.Record.{record_bytes}
use Rattle.table.specs.Slots.{slot_bytes, most_slots}
use Rattle.table.specs.Widening.{old_good, old_slots, old_at, widened_to, wide, widened}
use Rattle.table.proofs.Widening.{length-wide}
use Rattle.frame_copy.specs.Areas.{pasted}
use Rattle.frame_copy.proofs.Copying.{paste_next, paste_after, paste_laid, two_parts}
use Rattle.table_widening.specs.Parts.{head_bytes}
use Rattle.std.specs.Prelude.{Ok, Err}
use Rattle.numbers.specs.declared.refusals.Refusal.TheVariants.{TableLengthBad, AreaShort}

-- a copy over one that is not longer
paste_twice : (q u x : List ℕ) (k : ℕ) → k ≤ length q → length u ≤ length x → pasted (pasted q k u) k x ≡ pasted q k x
unfolding pasted
paste_twice q u x k inside short =
    let t : List ℕ = take k q in
    let d : List ℕ = drop (k + length u) q in
    let m : ℕ = length x - length u in
    let long : length t ≡ k = length-take-le k q inside in
    let front : length (t ++ u) ≡ k + length u = rw (length-append, long) in
    let sum : length (t ++ u) + m ≡ k + length x = omega (arith, front, short) in
    let whole : k + length u + m ≡ k + length x = omega (arith, short) in
    let first : take k ((t ++ u) ++ d) ≡ t = ap (take k) (append_assoc t u d) ∙ take_at t (u ++ d) k long in
    let last : drop (k + length x) ((t ++ u) ++ d) ≡ drop (k + length x) q =
    rw (← sum) (drop-append-add (t ++ u) d m)
    ∙ drop-drop m (k + length u) q
    ∙ ap (λ (n : ℕ). drop n q) whole in
    rw (first, last)

reach : (o w : List ℕ) (a k : ℕ) → a ≤ length o → a + length w ≡ k → k ≤ length (pasted o a w)
unfolding pasted
reach o w a k h e = rw (length-append, length-append, length-take-le a o h) (omega arith)

-- a copy over the last bytes that were written, of as many or more, makes one copy
paste_over : (o w u x : List ℕ) (a k : ℕ) → a ≤ length o → a + length w ≡ k → length u ≤ length x → pasted (pasted o a (w ++ u)) k x ≡ pasted o a (w ++ x)
paste_over o w u x a k h e short =
    ap (λ (q : List ℕ). pasted q k x) (sym (paste_next o w u a k h e))
    ∙ paste_twice (pasted o a w) u x k (reach o w a k h e) short
    ∙ paste_next o w x a k h e

-- a record in two parts that share a byte, and the zero byte
module _ (old out : List ℕ) (bytes : AreBytes old) (from at : ℕ) (room : from + record_bytes ≤ length old) (fits : at + slot_bytes ≤ length out) where
  part_back : (k n : ℕ) → k + n ≤ length old → bytes_of n (num (take n (drop k old))) ≡ take n (drop k old)
  part_back k n h =
      let long = length-drop k old in
      bytes_of_part (drop k old) n (λ i. rw (get_or-drop k old i 0) (bytes (k + i))) (omega arith)

  -- the last seven bytes, and the zero byte
  last_seven : (x : ℕ) → x ≡ num (take head_bytes (drop (from + 6) old)) → bytes_of head_bytes (x % 0x100000000000000 * 0x100 + 0) ≡ take 7 (drop (from + 7) old) ++ 0 ∷ []
  unfolding bytes_of
  last_seven x e =
      let y : ℕ = num (take 7 (drop (from + 7) old)) in
      let place : from + 6 + 1 ≡ from + 7 = omega arith in
      let split = num-add old (from + 6) 1 7 (omega arith) in
      let small : y < 256 ^ 7 = num_part_lt old (from + 7) 7 bytes (omega arith) in
      let is : x ≡ num (take 1 (drop (from + 6) old)) * 256 ^ 7 + y = e ∙ rw place at split in
      let low : x % 0x100000000000000 ≡ y = omega (arith, is, small) in
      rw low (bytes_of_join 7 1 y 0 (omega arith) ∙ ap (λ (l : List ℕ). l ++ 0 ∷ []) (part_back (from + 7) 7 (omega arith)))

  pub record_pasted : (v x : ℕ) → v ≡ num (take head_bytes (drop from old)) → x ≡ num (take head_bytes (drop (from + 6) old))
      → (p r : List ℕ) → p ≡ pasted out at (bytes_of head_bytes v) → r ≡ pasted p (at + 7) (bytes_of head_bytes (x % 0x100000000000000 * 0x100 + 0))
      → r ≡ pasted out at (take record_bytes (drop from old) ++ 0 ∷ [])
  record_pasted v x ev ex p r ep er =
      let first = length_part old from 7 (omega arith) in
      let shared = length_part old (from + 7) 1 (omega arith) in
      let tail : List ℕ = take 7 (drop (from + 7) old) ++ 0 ∷ [] in
      let long : length tail ≡ length (take 7 (drop (from + 7) old)) + 1 = length-append (take 7 (drop (from + 7) old)) (0 ∷ []) in
      er
      ∙ rw (ep, ev, part_back from head_bytes (omega arith), last_seven x ex, two_parts old from 7 head_bytes (omega arith)) (paste_over out (take 7 (drop from old)) (take 1 (drop (from + 7) old)) tail at (at + 7) (omega arith) (omega (arith, first)) (omega (arith, shared, long)))
      ∙ ap (pasted out at) (sym (append_assoc (take 7 (drop from old)) (take 7 (drop (from + 7) old)) (0 ∷ [])) ∙ ap (λ (l : List ℕ). l ++ 0 ∷ []) (sym (two_parts old from 7 record_bytes (omega arith))))

module _ (old out : List ℕ) where
  pub none_yet : out ≡ pasted out 0 (widened_to 0 old)
  unfolding pasted widened_to
  none_yet = refl

  -- one record more
  pub one_more : (i : ℕ) → record_bytes * i + record_bytes ≤ length old → (o q : List ℕ) → o ≡ pasted out 0 (widened_to i old)
      → q ≡ pasted o (slot_bytes * i) (old_at i old ++ 0 ∷ []) → q ≡ pasted out 0 (widened_to (i + 1) old)
  unfolding widened_to
  one_more i room o q so_far next =
      let front = length-wide old i (omega arith) in
      next ∙ rw (so_far, paste_after out (widened_to i old) (old_at i old ++ 0 ∷ []) (slot_bytes * i) front, add-one i)

  pub all_done : (i : ℕ) → i ≡ old_slots old → (o : List ℕ) → o ≡ pasted out 0 (widened_to i old) → o ≡ laid (wide old) out
  unfolding wide
  all_done i e o so_far = so_far ∙ rw e (paste_laid out (widened_to (old_slots old) old))

  -- the call
  module _ (g : Bool) (good : g ≡ old_good old) where
    pub widen_refused : g ≡ false → on_area (Err TableLengthBad) out ≡ widened old out
    unfolding widened settled check
    widen_refused h = rw (← good, h)

    module _ (ok : g ≡ true) where
      pub widen_short : length out < slot_bytes * old_slots old → on_area (Err AreaShort) out ≡ widened old out
      unfolding widened settled check
      widen_short h = rw (← good, ok, lt-leb (slot_bytes * old_slots old) (length out) h)

      pub widen_done : slot_bytes * old_slots old ≤ length out → (u : List ℕ) → u ≡ laid (wide old) out → on_area (Ok (slot_bytes * old_slots old)) u ≡ widened old out
      unfolding widened settled check
      widen_done h u e = rw (← good, ok, le-leb (slot_bytes * old_slots old) (length out) h, e)

      -- the length fits its bits
      pub widen_small : slot_bytes * old_slots old < 2 ^ 16
      unfolding old_good
      widen_small =
          let b = both_true (between 1 (record_bytes * most_slots) (length old)) _ (sym good ∙ ok) in
          let c = between_is 1 (record_bytes * most_slots) (length old) b.0 in
          omega arith
