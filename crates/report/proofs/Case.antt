-- The worked case: P1 alone, widened.
-- Assumes nothing.
use Prim.Native.Nat.{ℕ, zero, suc, ◌+◌, ◌<◌, ◌≤◌}
use mathlib.Core.Bool.{true, false}
use mathlib.Core.List.{List, [], ◌∷◌, ◌++◌, append-nil}
use mathlib.Core.Path.{◌≡◌, refl, sym, ap, ◌∙◌}
use native.Mathlib.Decide.{ℕ_discrete}
use native.Mathlib.Nat.{zero-add}
use native.Mathlib.Omega.{arith}
use lib.Dec.{eqb}
use borrow.Author.Tests.{eq-eqb, ne_eqb}
use Rattle.numbers.specs.Tests.{pick, both, between}
use Rattle.numbers.specs.Bytes.{num, bytes_of}
use Rattle.numbers.specs.Ranges.{individual, nickname_good, vlan_good}
use Rattle.table.specs.Record.{label_from, entry_of, entry_good, held, slot_of, marked_slot, unpacked}
use Rattle.table.specs.Slots.{table_good, count_slots}
use Rattle.table.specs.Learning.{free_slot}
use Rattle.table.specs.Table.{spoilt_slot}
use Rattle.table.specs.Widening.{widened_to, wide}
use Rattle.report.specs.Text.{sign, digits_of, hexadecimal, width_of, decimal, line_text, free_text, spoilt_text, refused_text}
use Rattle.report.specs.Report.{learned_with, configured_with, count_of, Line, line_of, line_if, lines_below, nickname_end, lines_of, text_of, counts_of, counts_text, reported}
use Rattle.report.specs.Claims.{p1, ReportCase}
use Rattle.report.proofs.Lines.{lines_next}

if_none : (l : Line) → l.learned + l.configured ≡ 0 → line_if l ≡ []
unfolding line_if pick
if_none l e = rw (eq-eqb _ _ e)

-- nicknames without records add no line
pub lines_none : (t : List ℕ) (a b : ℕ) → a ≤ b → ((x : ℕ) → a ≤ x → x < b → (line_of x t).learned + (line_of x t).configured ≡ 0) → lines_below b t ≡ lines_below a t
lines_none t a zero h none = let e : a ≡ 0 = omega arith in rw e
lines_none t a (suc n) h none = go (λ l. lines_none t a n l (λ x g k. none x g (omega arith))) (ℕ_discrete a (suc n))
  where
    go : (a ≤ n → lines_below n t ≡ lines_below a t) → Dec (a ≡ suc n) → lines_below (suc n) t ≡ lines_below a t
    go ih (yes e) = rw e
    go ih (no e) = lines_next t n ∙ rw (if_none (line_of n t) (none n (omega arith) (omega arith)), append-nil (lines_below n t)) (ih (omega arith))

abbrev p1-wide : List ℕ
p1-wide = 0x40 ∷ 0x00 ∷ 0x01 ∷ 0x40 ∷ 0x40 ∷ 0x00 ∷ 0x00 ∷ 0x00 ∷ 0x00 ∷ 0x22 ∷ 0x46 ∷ 0x82 ∷ 0x81 ∷ 0x2C ∷ 0x00 ∷ []

p1_is_wide : wide p1 ≡ p1-wide
unfolding wide widened_to
p1_is_wide = refl

p1_learned : (x : ℕ) → count_of (learned_with x) p1-wide ≡ pick (eqb 0x1234 x) 1 0
unfolding count_slots learned_with unpacked marked_slot slot_of held entry_of entry_good label_from individual nickname_good vlan_good between both pick num
p1_learned x = zero-add (pick (eqb 0x1234 x) 1 0)

p1-configured : (x : ℕ) → count_of (configured_with x) p1-wide ≡ 0
unfolding count_slots configured_with unpacked marked_slot slot_of held entry_of entry_good label_from individual nickname_good vlan_good between both pick num
p1-configured x = refl

p1_free : count_of free_slot p1-wide ≡ 0
unfolding count_slots free_slot unpacked marked_slot slot_of held entry_of entry_good label_from individual nickname_good vlan_good between both pick num
p1_free = refl

p1-spoilt : count_of spoilt_slot p1-wide ≡ 0
unfolding count_slots spoilt_slot unpacked marked_slot slot_of held entry_of entry_good label_from individual nickname_good vlan_good between both pick num
p1-spoilt = refl

p1_none : (x : ℕ) → (x ≡ 0x1234 → ⊥) → (line_of x p1-wide).learned + (line_of x p1-wide).configured ≡ 0
unfolding pick
p1_none x h = rw (p1_learned x, p1-configured x, ne_eqb 0x1234 x (λ e. h (sym e)))

p1_line : line_if (line_of 0x1234 p1-wide) ≡ record { nickname = 0x1234; learned = 1; configured = 0 } ∷ []
unfolding line_if pick
p1_line = rw (p1_learned 0x1234, p1-configured 0x1234)

no_lines : (t : List ℕ) → lines_below 0 t ≡ []
unfolding lines_below
no_lines t = refl

p1-listed : lines_of p1-wide ≡ record { nickname = 0x1234; learned = 1; configured = 0 } ∷ []
unfolding lines_of
p1-listed =
    lines_none p1-wide 0x1235 nickname_end (omega arith) (λ x h g. p1_none x (λ e. omega arith))
    ∙ lines_next p1-wide 0x1234
    ∙ rw (lines_none p1-wide 0 0x1234 (omega arith) (λ x h g. p1_none x (λ e. omega arith)), no_lines p1-wide) p1_line

p1_good : table_good p1-wide ≡ true
unfolding table_good both between
p1_good = refl

bad_good : table_good [] ≡ false
unfolding table_good both between
bad_good = refl

p1_text : text_of (record { nickname = 0x1234; learned = 1; configured = 0 } ∷ []) ++ (free_text 0 ++ spoilt_text 0)
    ≡ 0x31 ∷ 0x32 ∷ 0x33 ∷ 0x34 ∷ 0x20 ∷ 0x31 ∷ 0x20 ∷ 0x30 ∷ 0x0A
    ∷ 0x66 ∷ 0x72 ∷ 0x65 ∷ 0x65 ∷ 0x20 ∷ 0x30 ∷ 0x0A
    ∷ 0x73 ∷ 0x70 ∷ 0x6F ∷ 0x69 ∷ 0x6C ∷ 0x74 ∷ 0x20 ∷ 0x30 ∷ 0x0A ∷ []
unfolding text_of line_text free_text spoilt_text hexadecimal decimal width_of digits_of sign pick bytes_of
p1_text = refl

p1_counts : counts_of p1-wide ≡ record { lines = record { nickname = 0x1234; learned = 1; configured = 0 } ∷ []; free = 0; spoilt = 0 }
p1_counts = λ i. record { lines = p1-listed i; free = p1_free i; spoilt = p1-spoilt i }

p1-reported : reported (wide p1)
    ≡ text_of (record { nickname = 0x1234; learned = 1; configured = 0 } ∷ []) ++ (free_text 0 ++ spoilt_text 0)
unfolding reported counts_text pick
p1-reported = rw (p1_is_wide, p1_good) (ap counts_text p1_counts)

refused_reported : reported [] ≡ refused_text
unfolding reported pick
refused_reported = rw bad_good

refused_bytes_lem : refused_text ≡ 0x72 ∷ 0x65 ∷ 0x66 ∷ 0x75 ∷ 0x73 ∷ 0x65 ∷ 0x64 ∷ 0x20 ∷ 0x32 ∷ 0x0A ∷ []
unfolding refused_text decimal width_of digits_of sign pick bytes_of
refused_bytes_lem = refl

pub report_case : ReportCase
report_case = record { p1_lines = p1-reported ∙ p1_text; bad_length = refused_reported ∙ refused_bytes_lem }
