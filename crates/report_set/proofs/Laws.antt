-- Laws of the set: a nickname added, the tallies listed word by word, and in order.
-- Assumes nothing.
use Prim.{tt}
use Prim.Native.Nat.{ℕ, zero, suc, ◌+◌, ◌-◌, ◌*◌, ◌/◌, ◌%◌, ◌^◌, ◌<◌, ◌≤◌}
use mathlib.Core.List.{List, [], ◌∷◌, ◌++◌, append-nil, append_assoc}
use mathlib.Core.Path.{◌≡◌, refl, sym, ap, ◌∙◌}
use native.Mathlib.Numerals.{add-one}
use native.Mathlib.Omega.{arith}
use lib.Bits.{bit_and}
use lib.Count.{count_trailing_zeros}
use lib.Dec.{eqb}
use lib.ListN.{length, take, drop, get_or, set, replicate, length-append, drop_of_length-le}
use lib.Seq.{take-suc-set, drop-cons}
use Rattle.numbers.specs.Tests.{pick}
use Rattle.flush_sort.specs.Sorting.{All, Sorted}
use Rattle.report_tally.specs.Tallies.{tally_unit, tallied, counted_by, OneMore}
use Rattle.report_tally.proofs.Laws.{tallied-append, tallied_last, a_new}
use Rattle.report_set.specs.Set.{word_bits, one_tally, word_tallies, set_tallies}
use Rattle.report_set.proofs.Words.{no_bits, first_listed, shl_one, bit_fits, word_added, word_rising}

-- ---- a nickname added

module _ (f : List ℕ → ℕ) (g : ℕ → ℕ) (add : (a b : List ℕ) → f (a ++ b) ≡ f a + f b) (one : (x : ℕ) → f (one_tally x ∷ []) ≡ g x) where
  set_added : (s : List ℕ) (x i b : ℕ) → i < length s → b < word_bits → get_or s i 0 / 2 ^ b % 2 ≡ 0 → f (set_tallies x (set s i (get_or s i 0 + 2 ^ b))) ≡ f (set_tallies x s) + g (x + i * word_bits + b)
  unfolding set_tallies
  set_added [] x i b h k e = absurd (omega arith)
  set_added (w ∷ s) x zero b h k e =
      let here : x + 0 * word_bits + b ≡ x + b = omega arith in
      let more = word_added f g add one word_bits x w b k e in
      let now = add (word_tallies word_bits x (w + 2 ^ b)) (set_tallies (x + word_bits) s) in
      let was = add (word_tallies word_bits x w) (set_tallies (x + word_bits) s) in
      rw here (omega arith)
  set_added (w ∷ s) x (suc i) b h k e =
      let place : x + word_bits + i * word_bits + b ≡ x + suc i * word_bits + b = omega arith in
      let r : f (set_tallies (x + word_bits) (set s i (get_or s i 0 + 2 ^ b))) ≡ f (set_tallies (x + word_bits) s) + g (x + suc i * word_bits + b) = rw (← place) (set_added s (x + word_bits) i b (omega arith) k e) in
      let now = add (word_tallies word_bits x w) (set_tallies (x + word_bits) (set s i (get_or s i 0 + 2 ^ b))) in
      let was = add (word_tallies word_bits x w) (set_tallies (x + word_bits) s) in
      omega arith

one-counted : (j x : ℕ) → tallied j (one_tally x ∷ []) ≡ pick (eqb (x * 2) j) 1 0
one-counted j x =
    let same : one_tally x ≡ x * 2 * tally_unit + 1 = omega arith in
    tallied_last j (one_tally x) ∙ ap (counted_by j) same ∙ a_new j (x * 2)

-- where its bit is 0
module _ (s : List ℕ) (x : ℕ) (room : x < word_bits * length s) (none : get_or s (x / word_bits) 0 / 2 ^ (x % word_bits) % 2 ≡ 0) where
  abbrev more : List ℕ
  more = set s (x / word_bits) (get_or s (x / word_bits) 0 + 1 * 2 ^ (x % word_bits) % 2 ^ 64)

  more_is : more ≡ set s (x / word_bits) (get_or s (x / word_bits) 0 + 2 ^ (x % word_bits))
  more_is = rw (shl_one (x % word_bits) (omega arith))

  place : 0 + x / word_bits * word_bits + x % word_bits ≡ x
  place = omega arith

  pub added_fits : get_or s (x / word_bits) 0 < 2 ^ 64 → get_or s (x / word_bits) 0 + 1 * 2 ^ (x % word_bits) % 2 ^ 64 < 2 ^ 64
  added_fits few = rw (shl_one (x % word_bits) (omega arith)) (bit_fits 64 (get_or s (x / word_bits) 0) (x % word_bits) few (omega arith) none)

  pub added_long : length (set_tallies 0 more) ≡ length (set_tallies 0 s) + 1
  added_long = ap (λ (l : List ℕ). length (set_tallies 0 l)) more_is ∙ set_added length (λ y. 1) length-append (λ y. refl) s 0 (x / word_bits) (x % word_bits) (omega arith) (omega arith) none

  pub added_counted : OneMore (x * 2) (set_tallies 0 s) (set_tallies 0 more)
  added_counted j = ap (λ (l : List ℕ). tallied j (set_tallies 0 l)) more_is ∙ rw place at (set_added (tallied j) (λ y. pick (eqb (y * 2) j) 1 0) (tallied-append j) (one-counted j) s 0 (x / word_bits) (x % word_bits) (omega arith) (omega arith) none)

-- ---- the tallies listed

module _ (x c left : ℕ) (out : List ℕ) (some : left ≡ 0 → ⊥) (few : left < 2 ^ 64) where
  pub list_next : c < length out → (z v : ℕ) → z ≡ count_trailing_zeros word_bits left → v ≡ one_tally (x + z) → take (c + 1) (set out c v) ++ word_tallies word_bits x (bit_and left (left - 1)) ≡ take c out ++ word_tallies word_bits x left
  list_next h z v ez ev =
      let is : v ≡ one_tally (x + count_trailing_zeros word_bits left) = ev ∙ ap (λ (y : ℕ). one_tally (x + y)) ez in
      rw (add-one c, take-suc-set out c v h, first_listed word_bits x left (omega arith) few, is)
      (append_assoc (take c out) (one_tally (x + count_trailing_zeros word_bits left) ∷ []) (word_tallies word_bits x (bit_and left (left - 1))))

  pub list_less : length (word_tallies word_bits x left) ≡ length (word_tallies word_bits x (bit_and left (left - 1))) + 1
  list_less = ap length (first_listed word_bits x left (omega arith) few) ∙ sym (add-one (length (word_tallies word_bits x (bit_and left (left - 1)))))

pub list_end : (x left : ℕ) (l : List ℕ) → left ≡ 0 → l ++ word_tallies word_bits x left ≡ l
list_end x left l e = rw (e, no_bits word_bits x) (append-nil l)

pub list_none : (x left : ℕ) → left ≡ 0 → length (word_tallies word_bits x left) ≡ 0
list_none x left e = rw (e, no_bits word_bits x)

-- word by word
module _ (s : List ℕ) (i : ℕ) where
  pub set_next : i < length s → set_tallies (i * word_bits) (drop i s) ≡ word_tallies word_bits (i * word_bits) (get_or s i 0) ++ set_tallies ((i + 1) * word_bits) (drop (i + 1) s)
  unfolding set_tallies
  set_next h =
      let place : (i + 1) * word_bits ≡ i * word_bits + word_bits = omega arith in
      rw (drop-cons s i 0 h, place, add-one i)

  pub set_end : length s ≤ i → set_tallies (i * word_bits) (drop i s) ≡ []
  unfolding set_tallies
  set_end h = rw (drop_of_length-le s {i = i} h)

  -- a word listed
  pub word_listed : i < length s → (a b : List ℕ) → b ≡ a ++ word_tallies word_bits (i * word_bits) (get_or s i 0) → b ++ set_tallies ((i + 1) * word_bits) (drop (i + 1) s) ≡ a ++ set_tallies (i * word_bits) (drop i s)
  word_listed h a b e = rw (e, set_next h) (append_assoc a (word_tallies word_bits (i * word_bits) (get_or s i 0)) (set_tallies ((i + 1) * word_bits) (drop (i + 1) s)))

  pub set_longer : i < length s → length (set_tallies (i * word_bits) (drop i s)) ≡ length (word_tallies word_bits (i * word_bits) (get_or s i 0)) + length (set_tallies ((i + 1) * word_bits) (drop (i + 1) s))
  set_longer h = ap length (set_next h) ∙ length-append (word_tallies word_bits (i * word_bits) (get_or s i 0)) (set_tallies ((i + 1) * word_bits) (drop (i + 1) s))

  pub all_listed : length s ≤ i → (a : List ℕ) → a ++ set_tallies (i * word_bits) (drop i s) ≡ a
  all_listed h a = rw (set_end h) (append-nil a)

-- ---- in order, and none

set-rising : (s : List ℕ) (x : ℕ) → All (λ t. one_tally x ≤ t) (set_tallies x s) × Sorted (set_tallies x s)
unfolding set_tallies All Sorted
set-rising [] x = (tt, tt)
set-rising (w ∷ s) x = let r = set-rising s (x + word_bits) in word_rising word_bits x w (set_tallies (x + word_bits) s) r.0 r.1

pub set_sorted : (s : List ℕ) → Sorted (set_tallies 0 s)
set_sorted s = (set-rising s 0).1

pub set_empty : (n x : ℕ) → set_tallies x (replicate n 0) ≡ []
unfolding set_tallies
set_empty zero x = refl
set_empty (suc n) x = rw (no_bits word_bits x) (set_empty n (x + word_bits))
