-- The keys of a table's slots count as the table does, the text of their tallies is that of its lines, and no text is longer than the longest.
-- Assumes nothing.
use Prim.Native.Nat.{ℕ, zero, suc, ◌+◌, ◌*◌, ◌/◌, ◌<◌, ◌≤◌}
use mathlib.Core.Bool.{Bool, true, false}
use mathlib.Core.List.{List, [], ◌∷◌, ◌++◌, append-nil, append_assoc}
use mathlib.Core.Path.{◌≡◌, refl, sym, ap, ◌∙◌}
use native.Mathlib.Decide.{ℕ_discrete, dec_lt}
use native.Mathlib.Nat.{zero-add}
use native.Mathlib.Numerals.{add-one}
use native.Mathlib.Omega.{arith}
use lib.Dec.{eqb, ltb, leb}
use lib.ListN.{length, take, drop, length-append}
use lib.Seq.{length-take-le, take_at}
use borrow.Author.Tests.{eq-eqb, ne_eqb, eqb-false, leb-false, lt-ltb, le-ltb}
use Rattle.numbers.specs.Tests.{pick}
use Rattle.numbers.specs.After.{OnArea}
use Rattle.table.specs.Record.{unpacked, learned_that, configured_that, is_free, is_spoilt}
use Rattle.table.specs.Slots.{most_slots, table_good, slots_of, slot_at, count_slots}
use Rattle.table.specs.Learning.{free_slot}
use Rattle.table.specs.Table.{spoilt_slot}
use Rattle.table.specs.declared.Slot.{Slot}
use Rattle.table.specs.declared.Slot.TheVariants.{Free, Spoilt, Learned, Configured}
use Rattle.flush_sort.specs.Sorting.{Sorted}
use Rattle.report.specs.Text.{width_of, line_text, refused_text}
use Rattle.report.specs.Report.{learned_with, configured_with, count_of, Line, line_of, line_if, lines_below, nickname_end, lines_of, text_of, counts_of, counts_text, reported, written, reported_to}
use Rattle.report.proofs.Digits.{length_line}
use Rattle.report.proofs.Lines.{SmallNickname, small_unpacked}
use Rattle.report_keys.specs.Keys.{free_key, spoilt_key, key_of, keys_to, times_in}
use Rattle.report_keys.proofs.Laws.{pick-one, times_append, times_last}
use Rattle.report_tally.specs.Tallies.{tallied, Tallies, SameTallies}
use Rattle.report_gather.proofs.Laws.{length_keys}
use Rattle.report_rows.specs.Rows.{row_text, lines_text}
use Rattle.report_text.specs.Whole.{whole_text}
use Rattle.numbers.specs.Result.{Outcome}

-- ---- counts

-- a key stands as often among the keys as slots have it
times_keys : (k : ℕ) (t : List ℕ) (n : ℕ) → times_in k (keys_to n t) ≡ count_slots (λ r. eqb (key_of (unpacked r)) k) 0 n t
unfolding keys_to count_slots times_in
times_keys k t zero = refl
times_keys k t (suc n) =
    let ih = times_keys k t n in
    let a = times_append k (keys_to n t) (key_of (unpacked (slot_at n t)) ∷ []) in
    let l = times_last k (key_of (unpacked (slot_at n t))) in
    let z : ◌≡◌ {A = ℕ} (pick (eqb (key_of (unpacked (slot_at (0 + n) t))) k) 1 0) (pick (eqb (key_of (unpacked (slot_at n t))) k) 1 0) = rw (zero-add n) in
    omega arith

count_same : (p q : List ℕ → Bool) → ((r : List ℕ) → p r ≡ q r) → (t : List ℕ) (n : ℕ) → count_slots p 0 n t ≡ count_slots q 0 n t
unfolding count_slots
count_same p q e t zero = refl
count_same p q e t (suc n) = rw (count_same p q e t n, e (slot_at (0 + n) t))

-- which key a slot has
key_learned : (x : ℕ) → x < nickname_end → (s : Slot) → eqb (key_of s) (x * 2) ≡ learned_that (λ e. eqb e.nickname x) s
key_learned x h Free = ne_eqb free_key (x * 2) (λ z. omega arith)
key_learned x h Spoilt = ne_eqb spoilt_key (x * 2) (λ z. omega arith)
key_learned x h (Learned e) = go (ℕ_discrete e.nickname x)
  where
    go : Dec (e.nickname ≡ x) → eqb (e.nickname * 2) (x * 2) ≡ eqb e.nickname x
    go (yes q) = eq-eqb (e.nickname * 2) (x * 2) (omega arith) ∙ sym (eq-eqb e.nickname x q)
    go (no q) = ne_eqb (e.nickname * 2) (x * 2) (λ z. q (omega arith)) ∙ sym (ne_eqb e.nickname x q)
key_learned x h (Configured e) = ne_eqb (e.nickname * 2 + 1) (x * 2) (λ z. omega arith)

key_configured : (x : ℕ) → x < nickname_end → (s : Slot) → eqb (key_of s) (x * 2 + 1) ≡ configured_that (λ e. eqb e.nickname x) s
key_configured x h Free = ne_eqb free_key (x * 2 + 1) (λ z. omega arith)
key_configured x h Spoilt = ne_eqb spoilt_key (x * 2 + 1) (λ z. omega arith)
key_configured x h (Learned e) = ne_eqb (e.nickname * 2) (x * 2 + 1) (λ z. omega arith)
key_configured x h (Configured e) = go (ℕ_discrete e.nickname x)
  where
    go : Dec (e.nickname ≡ x) → eqb (e.nickname * 2 + 1) (x * 2 + 1) ≡ eqb e.nickname x
    go (yes q) = eq-eqb (e.nickname * 2 + 1) (x * 2 + 1) (omega arith) ∙ sym (eq-eqb e.nickname x q)
    go (no q) = ne_eqb (e.nickname * 2 + 1) (x * 2 + 1) (λ z. q (omega arith)) ∙ sym (ne_eqb e.nickname x q)

key_free : (s : Slot) → SmallNickname s → eqb (key_of s) free_key ≡ is_free s
key_free Free h = refl
key_free Spoilt h = refl
key_free (Learned e) h = ne_eqb (e.nickname * 2) free_key (λ z. omega arith)
key_free (Configured e) h = ne_eqb (e.nickname * 2 + 1) free_key (λ z. omega arith)

key_spoilt : (s : Slot) → SmallNickname s → eqb (key_of s) spoilt_key ≡ is_spoilt s
key_spoilt Free h = refl
key_spoilt Spoilt h = refl
key_spoilt (Learned e) h = ne_eqb (e.nickname * 2) spoilt_key (λ z. omega arith)
key_spoilt (Configured e) h = ne_eqb (e.nickname * 2 + 1) spoilt_key (λ z. omega arith)

module _ (t : List ℕ) where
  times_learned : (x : ℕ) → x < nickname_end → times_in (x * 2) (keys_to (slots_of t) t) ≡ count_of (learned_with x) t
  unfolding learned_with
  times_learned x h = times_keys (x * 2) t (slots_of t) ∙ count_same (λ r. eqb (key_of (unpacked r)) (x * 2)) (learned_with x) (λ r. key_learned x h (unpacked r)) t (slots_of t)

  times_configured : (x : ℕ) → x < nickname_end → times_in (x * 2 + 1) (keys_to (slots_of t) t) ≡ count_of (configured_with x) t
  unfolding configured_with
  times_configured x h = times_keys (x * 2 + 1) t (slots_of t) ∙ count_same (λ r. eqb (key_of (unpacked r)) (x * 2 + 1)) (configured_with x) (λ r. key_configured x h (unpacked r)) t (slots_of t)

  times_free : times_in free_key (keys_to (slots_of t) t) ≡ count_of free_slot t
  unfolding free_slot
  times_free = times_keys free_key t (slots_of t) ∙ count_same (λ r. eqb (key_of (unpacked r)) free_key) free_slot (λ r. key_free (unpacked r) (small_unpacked r)) t (slots_of t)

  times_spoilt : times_in spoilt_key (keys_to (slots_of t) t) ≡ count_of spoilt_slot t
  unfolding spoilt_slot
  times_spoilt = times_keys spoilt_key t (slots_of t) ∙ count_same (λ r. eqb (key_of (unpacked r)) spoilt_key) spoilt_slot (λ r. key_spoilt (unpacked r) (small_unpacked r)) t (slots_of t)

-- ---- text

if_text : (l : Line) → text_of (line_if l) ≡ row_text l.nickname l.learned l.configured
unfolding row_text line_if text_of pick
if_text l = go (eqb (l.learned + l.configured) 0)
  where
    go : (b : Bool) → text_of (pick b [] (l ∷ [])) ≡ pick b [] (line_text l.nickname l.learned l.configured)
    go true = refl
    go false = append-nil (line_text l.nickname l.learned l.configured)

text_append : (a b : List Line) → text_of (a ++ b) ≡ text_of a ++ text_of b
unfolding text_of
text_append [] b = refl
text_append (l ∷ a) b = rw (text_append a b) (sym (append_assoc (line_text l.nickname l.learned l.configured) (text_of a) (text_of b)))

module _ (t v : List ℕ) (tallies : Tallies (keys_to (slots_of t) t) v) where
  lines_text_lem : (n : ℕ) → n ≤ nickname_end → lines_text n v ≡ text_of (lines_below n t)
  unfolding lines_text lines_below text_of
  lines_text_lem zero h = refl
  lines_text_lem (suc n) h =
      let l : tallied (n * 2) v ≡ count_of (learned_with n) t = tallies (n * 2) ∙ times_learned t n (omega arith) in
      let c : tallied (n * 2 + 1) v ≡ count_of (configured_with n) t = tallies (n * 2 + 1) ∙ times_configured t n (omega arith) in
      rw (lines_text_lem n (omega arith), l, c, ← if_text (line_of n t)) (sym (text_append (lines_below n t) (line_if (line_of n t))))

  pub whole_counts : whole_text v (tallied free_key v) (tallied spoilt_key v) ≡ counts_text (counts_of t)
  unfolding whole_text counts_text lines_of
  whole_counts = rw (lines_text_lem nickname_end (omega arith), tallies free_key, tallies spoilt_key, times_free t, times_spoilt t)

-- ---- the longest

-- how many keys are below n
unfoldable below : ℕ → List ℕ → ℕ
below n [] = 0
below n (x ∷ xs) = pick (ltb x n) 1 0 + below n xs

below_step : (x n : ℕ) → ◌≡◌ {A = ℕ} (pick (ltb x (suc n)) 1 0) (pick (ltb x n) 1 0 + pick (eqb x n) 1 0)
unfolding pick
below_step x n = go (ℕ_discrete x n) (dec_lt x n)
  where
    go : Dec (x ≡ n) → Dec (x < n) → ◌≡◌ {A = ℕ} (pick (ltb x (suc n)) 1 0) (pick (ltb x n) 1 0 + pick (eqb x n) 1 0)
    go (yes e) d = rw (eq-eqb x n e, lt-ltb x (suc n) (omega arith), le-ltb x n (omega arith))
    go (no e) (yes l) = rw (ne_eqb x n e, lt-ltb x (suc n) (omega arith), lt-ltb x n l)
    go (no e) (no l) = rw (ne_eqb x n e, le-ltb x (suc n) (omega arith), le-ltb x n (omega arith))

below_next : (n : ℕ) (keys : List ℕ) → below (suc n) keys ≡ below n keys + times_in n keys
unfolding below times_in
below_next n [] = omega arith
below_next n (x ∷ keys) = let r = below_next n keys in let s = below_step x n in omega arith

below_few : (n : ℕ) (keys : List ℕ) → below n keys ≤ length keys
unfolding below
below_few n [] = omega arith
below_few n (x ∷ keys) = let r = below_few n keys in let p = pick-one (ltb x n) in omega arith

-- a count has few digits beside what it counts
pub width_few : (n : ℕ) → width_of n ≤ 1 + n / 10
unfolding width_of pick
width_few n = go (leb n 9) (leb n 99) (leb n 999) refl refl refl
  where
    go : (a b c : Bool) → leb n 9 ≡ a → leb n 99 ≡ b → leb n 999 ≡ c → pick a 1 (pick b 2 (pick c 3 4)) ≤ 1 + n / 10
    go true b c e f g = omega arith
    go false true c e f g = let h = leb-false n 9 e in omega arith
    go false false true e f g = let h = leb-false n 99 f in omega arith
    go false false false e f g = let h = leb-false n 999 g in omega arith

line_few : (x l c : ℕ) → length (row_text x l c) ≤ 9 * (l + c)
unfolding row_text pick
line_few x l c = go (eqb (l + c) 0) refl
  where
    go : (b : Bool) → eqb (l + c) 0 ≡ b → length (pick b [] (line_text x l c)) ≤ 9 * (l + c)
    go true e = omega arith
    go false e =
        let some = eqb-false (l + c) 0 e in
        let n = length_line x l c in
        let a = width_few l in
        let b = width_few c in
        omega arith

module _ (keys v : List ℕ) (tallies : Tallies keys v) where
  lines_few : (n : ℕ) → length (lines_text n v) ≤ 9 * below (n * 2) keys
  unfolding lines_text
  lines_few zero = omega arith
  lines_few (suc n) =
      let ih = lines_few n in
      let two : suc n * 2 ≡ suc (suc (n * 2)) = omega arith in
      let a = below_next (n * 2) keys in
      let b : below (suc (suc (n * 2))) keys ≡ below (suc (n * 2)) keys + times_in (n * 2 + 1) keys = rw (add-one (n * 2)) (below_next (suc (n * 2)) keys) in
      let p = tallies (n * 2) in
      let q = tallies (n * 2 + 1) in
      let f = line_few n (tallied (n * 2) v) (tallied (n * 2 + 1) v) in
      let l = length-append (lines_text n v) (row_text n (tallied (n * 2) v) (tallied (n * 2 + 1) v)) in
      rw two (omega arith)

  pub whole_few : length keys ≤ most_slots → length (lines_text nickname_end v) + 9 * (tallied free_key v + tallied spoilt_key v) ≤ 9 * most_slots
  whole_few few =
      let lines = lines_few nickname_end in
      let f = tallies free_key in
      let s = tallies spoilt_key in
      let a = below_next free_key keys in
      let b = below_next spoilt_key keys in
      let c = below_few (suc spoilt_key) keys in
      omega arith

pub table_few : (t v : List ℕ) → Tallies (keys_to (slots_of t) t) v → slots_of t ≤ most_slots → length (lines_text nickname_end v) + 9 * (tallied free_key v + tallied spoilt_key v) ≤ 9 * most_slots
table_few t v tallies few = let l = length_keys (slots_of t) t in whole_few (keys_to (slots_of t) t) v tallies (omega arith)

-- ---- the call

module _ (t area : List ℕ) (g : Bool) (good : g ≡ table_good t) where
  pub report_bad : g ≡ false → written refused_text area ≡ reported_to t area
  unfolding reported_to reported pick
  report_bad h = rw (← good, h)

  pub report_good : g ≡ true → written (counts_text (counts_of t)) area ≡ reported_to t area
  unfolding reported_to reported pick
  report_good h = rw (← good, h)

pub take_few : (n : ℕ) (l : List ℕ) (m : ℕ) → n ≤ m → n ≤ length l → length (take n l) ≤ m
take_few n l m h g = let e = length-take-le n l g in omega arith

pub tallies_written : (w : OnArea (Outcome ℕ)) (v : List ℕ) (f s : ℕ) (o : List ℕ) → w ≡ written (whole_text v f s) o → f ≡ tallied free_key v → s ≡ tallied spoilt_key v → w ≡ written (whole_text v (tallied free_key v) (tallied spoilt_key v)) o
tallies_written w v f s o e ef es = e ∙ rw (ef, es)

pub table_written : (t v o : List ℕ) (w : OnArea (Outcome ℕ)) → Tallies (keys_to (slots_of t) t) v → w ≡ written (whole_text v (tallied free_key v) (tallied spoilt_key v)) o → w ≡ written (counts_text (counts_of t)) o
table_written t v o w tallies is = is ∙ ap (λ (x : List ℕ). written x o) (whole_counts t v tallies)

-- tallies sorted in their own place
pub tally_done : (n : ℕ) (u a keys : List ℕ) → n ≤ length u → length a ≡ length (take n u) → Sorted a → SameTallies a (take n u) → Tallies keys (take n u) → Sorted (take n (a ++ drop n u)) × Tallies keys (take n (a ++ drop n u))
tally_done n u a keys h k sorted same tallies =
    let e : take n (a ++ drop n u) ≡ a = take_at a (drop n u) n (k ∙ length-take-le n u h) in
    rw e (sorted, λ j. same j ∙ tallies j)
