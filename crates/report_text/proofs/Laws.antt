-- Laws of the text: lines grow one at a time; lengths; what is written.
-- Assumes nothing.
use Prim.Native.Nat.{ℕ, ◌+◌, ◌/◌, ◌<◌, ◌≤◌}
use mathlib.Core.List.{List, [], ◌∷◌, ◌++◌, append_assoc}
use mathlib.Core.Path.{◌≡◌, refl, sym, ap, ◌∙◌}
use native.Mathlib.Nat.{zero-add}
use native.Mathlib.Omega.{arith}
use lib.ListN.{length, drop, length-append, get_or}
use borrow.Author.Tests.{le-leb, lt-leb}
use Rattle.numbers.specs.Tests.{pick}
use Rattle.numbers.specs.Result.{check, settled}
use Rattle.numbers.specs.After.{on_area}
use Rattle.numbers.specs.Bytes.{bytes_of}
use Rattle.numbers.proofs.Bytes.{length-bytes_of}
use Rattle.frame_copy.specs.Areas.{pasted}
use Rattle.frame_copy.proofs.Copying.{paste_laid}
use Rattle.report.specs.Text.{line_feed, width_of, decimal, digits_of, free_text, spoilt_text, refused_text}
use Rattle.report.specs.Report.{nickname_end, written}
use Rattle.report.proofs.Digits.{length-decimal, length_free, length-spoilt}
use Rattle.report_digits.proofs.Laws.{then-pasted}
use Rattle.flush_sort.specs.Sorting.{Sorted}
use Rattle.report_rows.specs.declared.Row.{Row}
use Rattle.report_rows.specs.Rows.{row_unit, row_text, lines_text, RowAt, DoneAt, single_row}
use Rattle.report_rows.proofs.Laws.{all_map}
use Rattle.report_rows.proofs.Lines.{lines_rest, lines_end, done_none, none_done, row_left, done_next, row_lines, lines_more}
use Rattle.report_lines.proofs.Laws.{pasted_none}
use Rattle.report_text.specs.Whole.{whole_text}
use Rattle.std.specs.Prelude.{Ok, Err}
use Rattle.numbers.specs.declared.refusals.Refusal.TheVariants.{AreaShort}

-- ---- all lines

-- n is the length of the lines that are done
pub record SoLong (v : List ℕ) (n i : ℕ) : Type 0 where
  pub below : ℕ
  pub low : below ≤ nickname_end
  pub done : DoneAt below i v
  pub long : n ≡ length (lines_text below v)

module _ (v : List ℕ) where
  pub long_none : SoLong v 0 0
  long_none = record { below = 0; low = omega arith; done = done_none v; long = sym (ap length (none_done v)) }

  module _ (s : Sorted v) (n i : ℕ) (so : SoLong v n i) where
    pub long_end : length v ≤ i → n ≡ length (lines_text nickname_end v)
    long_end h = so.long ∙ ap length (lines_end v i so.below so.done.done nickname_end so.low h)

    module _ (h : i < length v) (r : Row) (row : RowAt v i r) where
      past : nickname_end ≤ r.nickname → lines_text so.below v ≡ lines_text nickname_end v
      past g = lines_rest v i so.below so.done.done nickname_end so.low (all_map (λ t. r.nickname ≤ t / row_unit) (λ t. nickname_end ≤ t / row_unit) (λ t p. omega arith) (drop i v) (row_left v i so.below s h so.done r row))

      pub long_past : nickname_end ≤ r.nickname → n ≡ length (lines_text nickname_end v)
      long_past g = so.long ∙ ap length (past g)

      next_lines : lines_text (r.nickname + 1) v ≡ lines_text so.below v ++ row_text r.nickname r.learned r.configured
      next_lines = row_lines v i so.below s h so.done r row

      pub room_next : r.nickname < nickname_end → n + length (row_text r.nickname r.learned r.configured) ≤ length (lines_text nickname_end v)
      room_next g =
          let m = lines_more v (r.nickname + 1) nickname_end (omega arith) in
          let a = ap length next_lines in
          let b = length-append (lines_text so.below v) (row_text r.nickname r.learned r.configured) in
          let l = so.long in
          omega arith

      pub long_next : r.nickname < nickname_end → (m : ℕ) → m ≡ n + length (row_text r.nickname r.learned r.configured) → SoLong v m r.next
      long_next g m em =
          let a = ap length next_lines in
          let b = length-append (lines_text so.below v) (row_text r.nickname r.learned r.configured) in
          let l = so.long in
          record { below = r.nickname + 1; low = omega arith; done = done_next v i so.below s h so.done r row; long = omega arith }

      -- the lines written
      module _ (o o₁ : List ℕ) (first : o₁ ≡ pasted o 0 (lines_text so.below v)) where
        pub put_past : nickname_end ≤ r.nickname → o₁ ≡ pasted o 0 (lines_text nickname_end v)
        put_past g = first ∙ ap (pasted o 0) (past g)

        pub put_next : r.nickname < nickname_end → (m : ℕ) → m ≡ n + length (row_text r.nickname r.learned r.configured) → (o₂ : List ℕ) → o₂ ≡ pasted o₁ n (row_text r.nickname r.learned r.configured)
            → (next : SoLong v m r.next) × (o₂ ≡ pasted o 0 (lines_text next.below v))
        put_next g m em o₂ second = (
          record { below = r.nickname + 1; low = omega arith; done = done_next v i so.below s h so.done r row; long = em ∙ longer },
          then-pasted o o₁ o₂ (lines_text so.below v) (row_text r.nickname r.learned r.configured) (lines_text (r.nickname + 1) v) 0 n first second (omega arith) (zero-add (length (lines_text so.below v)) ∙ sym so.long) (sym next_lines),
        )
          where
            longer : n + length (row_text r.nickname r.learned r.configured) ≡ length (lines_text (r.nickname + 1) v)
            longer =
                let a = ap length next_lines in
                let b = length-append (lines_text so.below v) (row_text r.nickname r.learned r.configured) in
                let l = so.long in
                omega arith

    pub put_done : (o o₁ : List ℕ) → o₁ ≡ pasted o 0 (lines_text so.below v) → length v ≤ i → o₁ ≡ pasted o 0 (lines_text nickname_end v)
    put_done o o₁ first h = first ∙ ap (pasted o 0) (lines_end v i so.below so.done.done nickname_end so.low h)

-- a row of one learned record, by its nickname
abbrev pub single_named : ℕ → ℕ → Row
single_named x i = record { nickname = x; learned = 1; configured = 0; next = i + 1 }

pub single_named_lem : (v : List ℕ) (i x : ℕ) → x ≡ get_or v i 0 / row_unit → (get_or v i 0 / row_unit < nickname_end) × RowAt v i (single_row (get_or v i 0) i) → (x < nickname_end) × RowAt v i (single_named x i)
single_named_lem v i x e single = rw e single

pub put_none : (o v : List ℕ) → (so : SoLong v 0 0) × (o ≡ pasted o 0 (lines_text so.below v))
put_none o v =
    (record { below = 0; low = omega arith; done = done_none v; long = sym (ap length (none_done v)) }, rw (none_done v) (pasted_none o 0))

-- ---- a word, a count and a line feed

pub last_pasted : (o o₁ o₂ o₃ : List ℕ) (at k w n e : ℕ) → at ≤ length o → o₁ ≡ pasted o at (bytes_of k w) → o₂ ≡ pasted o₁ (at + k) (decimal n) → e ≡ at + k + width_of n → o₃ ≡ pasted o₂ e (line_feed ∷ []) → o₃ ≡ pasted o at (bytes_of k w ++ (decimal n ++ line_feed ∷ []))
last_pasted o o₁ o₂ o₃ at k w n e h first second ee third =
    let lw = length-bytes_of k w in
    let ln = length-decimal n in
    let two : o₂ ≡ pasted o at (bytes_of k w ++ decimal n) = then-pasted o o₁ o₂ (bytes_of k w) (decimal n) (bytes_of k w ++ decimal n) at (at + k) first second h (omega arith) refl in
    let l2 = length-append (bytes_of k w) (decimal n) in
    then-pasted o o₂ o₃ (bytes_of k w ++ decimal n) (line_feed ∷ []) (bytes_of k w ++ (decimal n ++ line_feed ∷ [])) at e two third h (omega arith) (append_assoc (bytes_of k w) (decimal n) (line_feed ∷ []))

free_is : (f : ℕ) → bytes_of 5 0x66_72_65_65_20 ++ (decimal f ++ line_feed ∷ []) ≡ free_text f
unfolding free_text
free_is f = refl

spoilt_is : (s : ℕ) → bytes_of 7 0x73_70_6F_69_6C_74_20 ++ (decimal s ++ line_feed ∷ []) ≡ spoilt_text s
unfolding spoilt_text
spoilt_is s = refl

pub refused_is : bytes_of 8 0x72_65_66_75_73_65_64_20 ++ (decimal 2 ++ line_feed ∷ []) ≡ refused_text
unfolding refused_text
refused_is = refl

pub refused_length : 10 ≡ length refused_text
unfolding refused_text bytes_of decimal digits_of width_of pick
refused_length = refl

pub width_two : width_of 2 ≡ 1
unfolding width_of pick
width_two = refl

pub end_pasted : (o o₁ o₂ : List ℕ) (at f s e : ℕ) → at ≤ length o → o₁ ≡ pasted o at (bytes_of 5 0x66_72_65_65_20 ++ (decimal f ++ line_feed ∷ [])) → e ≡ at + 5 + width_of f + 1
    → o₂ ≡ pasted o₁ e (bytes_of 7 0x73_70_6F_69_6C_74_20 ++ (decimal s ++ line_feed ∷ [])) → o₂ ≡ pasted o at (free_text f ++ spoilt_text s)
end_pasted o o₁ o₂ at f s e h first ee second =
    let lf = length_free f in
    then-pasted o o₁ o₂ (free_text f) (spoilt_text s) (free_text f ++ spoilt_text s) at e (first ∙ ap (pasted o at) (free_is f)) (second ∙ ap (pasted o₁ e) (spoilt_is s)) h (omega arith) refl

-- ---- the whole

pub length_whole : (v : List ℕ) (f s : ℕ) → length (whole_text v f s) ≡ length (lines_text nickname_end v) + 14 + width_of f + width_of s
unfolding whole_text
length_whole v f s =
    let a = length-append (lines_text nickname_end v) (free_text f ++ spoilt_text s) in
    let b = length-append (free_text f) (spoilt_text s) in
    let lf = length_free f in
    let ls = length-spoilt s in
    omega arith

pub whole_pasted : (o o₁ o₂ v : List ℕ) (f s at : ℕ) → o₁ ≡ pasted o 0 (lines_text nickname_end v) → at ≡ length (lines_text nickname_end v) → o₂ ≡ pasted o₁ at (free_text f ++ spoilt_text s) → o₂ ≡ pasted o 0 (whole_text v f s)
unfolding whole_text
whole_pasted o o₁ o₂ v f s at first ea second =
    then-pasted o o₁ o₂ (lines_text nickname_end v) (free_text f ++ spoilt_text s) (lines_text nickname_end v ++ (free_text f ++ spoilt_text s)) 0 at first second (omega arith) (zero-add (length (lines_text nickname_end v)) ∙ sym ea) refl

module _ (text o : List ℕ) (n : ℕ) (e : n ≡ length text) where
  pub written_short : length o < n → on_area (Err AreaShort) o ≡ written text o
  unfolding written settled check
  written_short h = rw (lt-leb (length text) (length o) (omega arith))

  pub written_done : n ≤ length o → (u : List ℕ) → u ≡ pasted o 0 text → on_area (Ok n) u ≡ written text o
  unfolding written settled check
  written_done h u is = rw (le-leb (length text) (length o) (omega arith), e, is, paste_laid o text)
