-- Each outcome of reading a Compact frame, from facts as the code finds them.
-- Assumes nothing.
use Prim.Native.Nat.{ℕ, ◌+◌, ◌≤◌, ◌<◌}
use mathlib.Core.Bool.{Bool, true, false}
use mathlib.Core.Path.{◌≡◌, sym}
use mathlib.Core.List.{List}
use native.Mathlib.Omega.{arith}
use lib.ListN.{length, take, drop, length-drop}
use lib.Seq.{drop-drop}
use borrow.Author.Tests.{le-leb, lt-leb}
use Rattle.numbers.specs.Result.{check, and_then}
use Rattle.frame.specs.Front.{inner}
use Rattle.frame.specs.Header.{header_length}
use Rattle.frame.specs.Labels.{is_trill, label_length}
use Rattle.frame.specs.Formats.{compact_after, compact}
use Rattle.frame.proofs.Local.{label_is, label_fits}
use Rattle.frame_parse.specs.Meaning.{fields_in}
use Rattle.std.specs.Prelude.{Ok, Err}
use Rattle.numbers.specs.declared.refusals.Refusal.TheVariants.{NotTrill, CutShort}
use Rattle.numbers.specs.declared.refusals.Refusal.{Refusal}

-- ---- up to the label

module _ (f : List ℕ) (long : 12 ≤ length f) where
  addresses_in : compact f ≡ and_then (label_length (drop 12 f)) λ n. compact_after (take 6 f) (take 6 (drop 6 f)) (take n (drop 12 f)) (drop n (drop 12 f))
  unfolding compact check
  addresses_in =
      let six : 6 ≤ length (drop 6 f) = simp length-drop (omega arith) in
      rw (le-leb 6 (length f) (omega arith), le-leb 6 (length (drop 6 f)) six, drop-drop 6 6 f)

  module _ (t : List ℕ) (et : t ≡ drop 12 f) where
    pub label_refused : (e : Refusal) → Err e ≡ label_length t → Err e ≡ compact f
    unfolding and_then
    label_refused e p = rw (addresses_in, ← et, ← p)

    pub label_got : (n : ℕ) → Ok n ≡ label_length t → label_length (drop 12 f) ≡ Ok n
    label_got n p = rw (← et) (sym p)

  module _ (n : ℕ) (label : label_length (drop 12 f) ≡ Ok n) where
    pub after_room : 12 + n ≤ length f
    after_room =
        let d = length-drop 12 f in
        let h = label_fits (drop 12 f) n (label_is (drop 12 f) n label) in
        omega arith

    -- ---- after it

    module _ (l : List ℕ) (el : l ≡ drop (12 + n) f) where
      after_label : compact f ≡ compact_after (take 6 f) (take 6 (drop 6 f)) (take n (drop 12 f)) l
      unfolding and_then
      after_label = rw (addresses_in, label, drop-drop n 12 f, el)

      pub type_cut : length l < 2 → Err CutShort ≡ compact f
      unfolding compact_after check
      type_cut p = rw (after_label, lt-leb 2 (length l) p)

      module _ (two : 2 ≤ length l) (x : Bool) (ex : x ≡ is_trill l) where
        pub type_bad : x ≡ false → Err NotTrill ≡ compact f
        unfolding compact_after check
        type_bad p = rw (after_label, le-leb 2 (length l) two, ← ex, p)

        module _ (ty : x ≡ true) (g : List ℕ) (eg : g ≡ drop 2 l) where
          pub header_refused : (e : Refusal) → Err e ≡ header_length inner g → Err e ≡ compact f
          unfolding compact_after check and_then
          header_refused e p = rw (after_label, le-leb 2 (length l) two, ← ex, ty, ← eg, ← p)

          module _ (h : ℕ) (q : List ℕ) (eh : Ok h ≡ header_length inner g) (eq : q ≡ drop h g) where
            pub content_cut : length q < 2 → Err CutShort ≡ compact f
            unfolding compact_after check and_then
            content_cut p = rw (after_label, le-leb 2 (length l) two, ← ex, ty, ← eg, ← eh, ← eq, lt-leb 2 (length q) p)

            pub compact_whole : 2 ≤ length q → Ok (fields_in f (record { dst_offset = 0; label_length = n; header_offset = 12 + n + 2; header_length = h; content_offset = 12 + n + 2 + h })) ≡ compact f
            unfolding compact_after check and_then
            compact_whole p =
                rw (after_label, le-leb 2 (length l) two, ← ex, ty, ← eg, ← eh, ← eq, le-leb 2 (length q) p, eq, eg, el, drop-drop 2 (12 + n) f, drop-drop h (12 + n + 2) f)
