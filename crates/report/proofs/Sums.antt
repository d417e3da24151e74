-- The counts of all lines, of the free and of the spoilt slots add up to the slots; so the lines are few, and the report is short.
-- Assumes nothing.
use Prim.{Unit, tt}
use Prim.Native.Nat.{ℕ, zero, suc, ◌+◌, ◌*◌, ◌^◌, ◌<◌, ◌≤◌}
use mathlib.Core.Bool.{Bool, true, false}
use mathlib.Core.List.{List, [], ◌∷◌, ◌++◌}
use mathlib.Core.Path.{◌≡◌, refl}
use native.Mathlib.Nat.{zero-add}
use native.Mathlib.Omega.{arith}
use lib.Dec.{eqb}
use lib.ListN.{length, length-append}
use borrow.Author.Tests.{eq-eqb, ne_eqb, eqb-true}
use native.Mathlib.Decide.{ℕ_discrete}
use Rattle.numbers.specs.Tests.{pick}
use Rattle.numbers.specs.Bytes.{bytes_of}
use Rattle.table.specs.Record.{unpacked, learned_that, configured_that, is_free, is_spoilt}
use Rattle.table.specs.Slots.{table_good, slots_of, slot_at, count_slots}
use Rattle.table.specs.Learning.{free_slot}
use Rattle.table.specs.Table.{spoilt_slot}
use Rattle.table.specs.declared.Slot.{Slot}
use Rattle.table.specs.declared.Slot.TheVariants.{Free, Spoilt, Learned, Configured}
use Rattle.table.proofs.Slots.{good_slots}
use Rattle.report.specs.Text.{decimal, digits_of, width_of, line_text, free_text, spoilt_text, refused_text}
use Rattle.report.specs.Report.{learned_with, configured_with, count_of, Line, line_of, line_if, lines_below, nickname_end, lines_of, text_of, counts_of, counts_text, reported}
use Rattle.report.specs.Claims.{sum_of, EachLine, ReportAddsUp, ReportFits}
use Rattle.report.proofs.Digits.{length_line, length_free, length-spoilt, width_most}
use Rattle.report.proofs.Lines.{SmallNickname, small_unpacked, lines_each}

-- ---- sums over numbers

unfoldable pub sum_to : (ℕ → ℕ) → ℕ → ℕ
sum_to f zero = 0
sum_to f (suc n) = sum_to f n + f n

sum_same : (f g : ℕ → ℕ) → ((x : ℕ) → f x ≡ g x) → (n : ℕ) → sum_to f n ≡ sum_to g n
unfolding sum_to
sum_same f g e zero = refl
sum_same f g e (suc n) = rw (sum_same f g e n, e n)

sum-add : (f g : ℕ → ℕ) (n : ℕ) → sum_to (λ x. f x + g x) n ≡ sum_to f n + sum_to g n
unfolding sum_to
sum-add f g zero = refl
sum-add f g (suc n) = let r = sum-add f g n in omega arith

sum_none : (f : ℕ → ℕ) → ((x : ℕ) → f x ≡ 0) → (n : ℕ) → sum_to f n ≡ 0
unfolding sum_to
sum_none f e zero = refl
sum_none f e (suc n) = let r = sum_none f e n in let q = e n in omega arith

-- one number is counted once
sum-one_not : (a n : ℕ) → n ≤ a → sum_to (λ x. pick (eqb a x) 1 0) n ≡ 0
unfolding sum_to pick
sum-one_not a zero h = refl
sum-one_not a (suc n) h = let r = sum-one_not a n (omega arith) in rw (ne_eqb a n (λ q. omega arith)) (omega arith)

sum_one : (a n : ℕ) → a < n → sum_to (λ x. pick (eqb a x) 1 0) n ≡ 1
unfolding sum_to pick
sum_one a zero h = absurd (omega arith)
sum_one a (suc n) h = go (λ l. sum_one a n l) (ℕ_discrete a n)
  where
    go : (a < n → sum_to (λ x. pick (eqb a x) 1 0) n ≡ 1) → Dec (a ≡ n) → sum_to (λ x. pick (eqb a x) 1 0) n + pick (eqb a n) 1 0 ≡ 1
    go ih (yes q) = let r = sum-one_not a n (omega arith) in rw (eq-eqb a n q) (omega arith)
    go ih (no q) = let r = ih (omega arith) in rw (ne_eqb a n q) (omega arith)

-- ---- one slot is counted once

-- by its nickname, as free or as spoilt
abbrev held_as : Slot → ℕ → ℕ
held_as s x = pick (learned_that (λ e. eqb e.nickname x) s) 1 0 + pick (configured_that (λ e. eqb e.nickname x) s) 1 0

abbrev Below : ℕ → Slot → Type 0
Below n Free = Unit {0}
Below n Spoilt = Unit {0}
Below n (Learned e) = e.nickname < n
Below n (Configured e) = e.nickname < n

slot_once : (n : ℕ) (s : Slot) → Below n s → sum_to (held_as s) n + pick (is_free s) 1 0 + pick (is_spoilt s) 1 0 ≡ 1
unfolding pick
slot_once n Free h = let r = sum_none (held_as Free) (λ x. refl) n in omega arith
slot_once n Spoilt h = let r = sum_none (held_as Spoilt) (λ x. refl) n in omega arith
slot_once n (Learned e) h =
    let r = sum_same (held_as (Learned e)) (λ x. pick (eqb e.nickname x) 1 0) (λ x. omega arith) n in
    let q = sum_one e.nickname n h in
    omega arith
slot_once n (Configured e) h =
    let r = sum_same (held_as (Configured e)) (λ x. pick (eqb e.nickname x) 1 0) (λ x. zero-add _) n in
    let q = sum_one e.nickname n h in
    omega arith

below_small : (s : Slot) → SmallNickname s → Below nickname_end s
below_small Free h = tt
below_small Spoilt h = tt
below_small (Learned e) h = h
below_small (Configured e) h = h

module _ (t : List ℕ) (n : ℕ) (below : (r : List ℕ) → Below n (unpacked r)) where
  total : (m : ℕ) → sum_to (λ x. count_slots (learned_with x) 0 m t + count_slots (configured_with x) 0 m t) n + count_slots free_slot 0 m t + count_slots spoilt_slot 0 m t ≡ m
  unfolding count_slots learned_with configured_with free_slot spoilt_slot
  total zero = let r = sum_none (λ x. 0 + 0) (λ x. refl) n in omega arith
  total (suc m) =
      let s : Slot = unpacked (slot_at (0 + m) t) in
      let before : ℕ → ℕ = λ x. count_slots (learned_with x) 0 m t + count_slots (configured_with x) 0 m t in
      let apart = sum_same (λ x. (count_slots (learned_with x) 0 m t + pick (learned_that (λ e. eqb e.nickname x) s) 1 0) + (count_slots (configured_with x) 0 m t + pick (configured_that (λ e. eqb e.nickname x) s) 1 0)) (λ x. before x + held_as s x) (λ x. omega arith) n in
      let two = sum-add before (held_as s) n in
      let one = slot_once n s (below (slot_at (0 + m) t)) in
      let ih = total m in
      omega arith

-- ---- the lines

sum-append : (a b : List Line) → sum_of (a ++ b) ≡ sum_of a + sum_of b
unfolding sum_of
sum-append [] b = omega arith
sum-append (l ∷ a) b = let r = sum-append a b in omega arith

sum_if : (l : Line) → sum_of (line_if l) ≡ l.learned + l.configured
unfolding line_if sum_of pick
sum_if l = go (eqb (l.learned + l.configured) 0) refl
  where
    go : (b : Bool) → eqb (l.learned + l.configured) 0 ≡ b → sum_of (pick b [] (l ∷ [])) ≡ l.learned + l.configured
    go true e = let z = eqb-true (l.learned + l.configured) 0 e in omega arith
    go false e = omega arith

sum_lines : (t : List ℕ) (n : ℕ) → sum_of (lines_below n t) ≡ sum_to (λ x. count_of (learned_with x) t + count_of (configured_with x) t) n
unfolding lines_below sum_of sum_to
sum_lines t zero = refl
sum_lines t (suc n) =
    let r = sum_lines t n in
    let a = sum-append (lines_below n t) (line_if (line_of n t)) in
    let l = sum_if (line_of n t) in
    omega arith

adds_up : (t : List ℕ) (n : ℕ) → ((r : List ℕ) → Below n (unpacked r)) → sum_of (lines_below n t) + count_of free_slot t + count_of spoilt_slot t ≡ slots_of t
adds_up t n below =
    let r = total t n below (slots_of t) in
    let l = sum_lines t n in
    omega arith

pub report_adds_up : ReportAddsUp
unfolding lines_of
report_adds_up t = adds_up t nickname_end (λ r. below_small (unpacked r) (small_unpacked r))

-- ---- the length

-- a line has 15 bytes at most, and a record
lines_short : (ls : List Line) → EachLine (λ l. l.learned + l.configured ≡ 0 → ⊥) ls → length (text_of ls) ≤ 15 * sum_of ls
unfolding text_of sum_of EachLine
lines_short [] h = omega arith
lines_short (l ∷ ls) h =
    let r = lines_short ls h.1 in
    let some = h.0 in
    let a = length-append (line_text l.nickname l.learned l.configured) (text_of ls) in
    let b = length_line l.nickname l.learned l.configured in
    let c = width_most l.learned in
    let d = width_most l.configured in
    let one : 1 ≤ l.learned + l.configured = not_none _ some in
    omega arith
  where
    not_none : (k : ℕ) → (k ≡ 0 → ⊥) → 1 ≤ k
    not_none k h = omega arith

pub table_short : (t : List ℕ) → table_good t ≡ true → length (counts_text (counts_of t)) < 2 ^ 16
unfolding counts_text lines_of
table_short t good =
    let few = good_slots t good in
    let sum = adds_up t nickname_end (λ r. below_small (unpacked r) (small_unpacked r)) in
    let short = lines_short (lines_below nickname_end t) (lines_each t (λ l. l.learned + l.configured ≡ 0 → ⊥) nickname_end (λ x h some. some)) in
    let a = length-append (text_of (lines_below nickname_end t)) (free_text (count_of free_slot t) ++ spoilt_text (count_of spoilt_slot t)) in
    let b = length-append (free_text (count_of free_slot t)) (spoilt_text (count_of spoilt_slot t)) in
    let c = length_free (count_of free_slot t) in
    let d = length-spoilt (count_of spoilt_slot t) in
    let e = width_most (count_of free_slot t) in
    let f = width_most (count_of spoilt_slot t) in
    omega arith

refused_short : length refused_text < 2 ^ 16
unfolding refused_text bytes_of decimal digits_of width_of pick
refused_short = omega arith

pub report_fits : ReportFits
unfolding reported pick
report_fits t = go (table_good t) refl
  where
    go : (b : Bool) → table_good t ≡ b → length (pick b (counts_text (counts_of t)) refused_text) < 2 ^ 16
    go true e = table_short t e
    go false e = refused_short
