-- Each outcome of reading a General frame, from facts as the code finds them.
-- Assumes nothing.
use Prim.Native.Nat.{ℕ, ◌+◌, ◌≤◌, ◌<◌}
use mathlib.Core.Path.{◌≡◌, refl, sym}
use mathlib.Core.Bool.{Bool, true, false}
use mathlib.Core.List.{List}
use native.Mathlib.Omega.{arith}
use lib.Dec.{leb}
use lib.ListN.{length, take, drop, length-drop}
use lib.Seq.{drop-drop}
use borrow.Author.Tests.{leb-true, le-leb, lt-leb}
use Rattle.numbers.specs.Result.{check, and_then}
use Rattle.frame.specs.Front.{Front}
use Rattle.frame.specs.Header.{header_length}
use Rattle.frame.specs.Labels.{label_length}
use Rattle.frame.specs.Fields.{with_content}
use Rattle.frame.specs.Formats.{outer_length, general_after, general}
use Rattle.frame.proofs.Local.{header_is, label_is, label_fits}
use Rattle.frame.proofs.Parts.{outer_is}
use Rattle.frame_parse.specs.Meaning.{fields_in}
use Rattle.std.specs.Prelude.{Ok, Err}
use Rattle.numbers.specs.declared.refusals.Refusal.TheVariants.{CutShort}
use Rattle.numbers.specs.declared.refusals.Refusal.{Refusal}

-- ---- what a length says

pub header_room : (d : Front) (l : List ℕ) (h : ℕ) → Ok h ≡ header_length d l → h ≤ length l
header_room d l h q = (header_is d l h (sym q)).fits

pub label_room : (l : List ℕ) (n : ℕ) → Ok n ≡ label_length l → n ≤ length l
label_room l n q = label_fits l n (label_is l n (sym q))

pub outer_room : (l : List ℕ) (n : ℕ) → outer_length l ≡ Ok n → n ≤ length l
outer_room l n q = (outer_is l n q).0

-- ---- the outcomes

pub outer_refused : (d : Front) (f : List ℕ) (e : Refusal) → Err e ≡ outer_length f → Err e ≡ general d f
unfolding general and_then
outer_refused d f e p = rw (← p)

module _ (d : Front) (f : List ℕ) (o : ℕ) (eo : outer_length f ≡ Ok o) (l : List ℕ) (el : l ≡ drop o f) where
  after_outer_lem : general d f ≡ general_after d l
  unfolding general and_then
  after_outer_lem = rw (eo, el)

  pub header_refused : (e : Refusal) → Err e ≡ header_length d l → Err e ≡ general d f
  unfolding general_after and_then
  header_refused e p = rw (after_outer_lem, ← p)

  module _ (h : ℕ) (a : List ℕ) (eh : Ok h ≡ header_length d l) (ea : a ≡ drop h l) where
    -- both addresses are there, or one is cut
    pub addresses_cut : length a < 12 → Err CutShort ≡ general d f
    unfolding general_after and_then check
    addresses_cut p = cut_cases (leb 6 (length a)) refl
      where
        cut_cases : (z : Bool) → leb 6 (length a) ≡ z → Err CutShort ≡ general d f
        cut_cases true e =
            let six = leb-true 6 (length a) e in
            let short : length (drop 6 a) < 6 = simp length-drop (omega arith) in
            rw after_outer_lem (simp (← eh, ← ea, e, lt-leb 6 (length (drop 6 a)) short))
        cut_cases false e = rw after_outer_lem (simp (← eh, ← ea, e))

    module _ (long : 12 ≤ length a) (t : List ℕ) (et : t ≡ drop 12 a) where
      after_addresses : general d f ≡ and_then (label_length t) λ n. with_content (record { header = take h l; dst = take 6 a; src = take 6 (drop 6 a); label = take n t; content = drop n t })
      unfolding general_after and_then check
      after_addresses =
          let six : 6 ≤ length (drop 6 a) = simp length-drop (omega arith) in
          rw after_outer_lem (simp (← eh, ← ea, le-leb 6 (length a) (omega arith), le-leb 6 (length (drop 6 a)) six, drop-drop 6 6 a, ← et))

      pub label_refused : (e : Refusal) → Err e ≡ label_length t → Err e ≡ general d f
      unfolding and_then
      label_refused e p = rw (after_addresses, ← p)

      module _ (n : ℕ) (q : List ℕ) (en : Ok n ≡ label_length t) (eq : q ≡ drop n t) where
        pub content_cut : length q < 2 → Err CutShort ≡ general d f
        unfolding and_then check
        content_cut p = rw (after_addresses, ← en, ← eq, lt-leb 2 (length q) p)

        pub general_whole : 2 ≤ length q → Ok (fields_in f (record { dst_offset = o + h; label_length = n; header_offset = o; header_length = h; content_offset = o + h + 12 + n })) ≡ general d f
        unfolding and_then check
        general_whole p =
            rw (after_addresses, ← en, ← eq, le-leb 2 (length q) p, eq, et, ea, el, drop-drop h o f, drop-drop 6 (o + h) f, drop-drop 12 (o + h) f, drop-drop n (o + h + 12) f)
