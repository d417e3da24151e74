-- A chain over parts of k bytes: `chunks_exact` yields them, and the place that `position` answers is that of the first that passes.
-- Assumes nothing.
use Prim.Native.Nat.{ℕ, zero, suc, ◌+◌, ◌≤◌, ◌<◌}
use native.Mathlib.Omega.{arith}
use native.Mathlib.Nat.{add-zero}
use mathlib.Core.Bool.{Bool, true, false, cond, not}
use mathlib.Core.List.{List, [], ◌∷◌, ◌++◌}
use mathlib.Core.Path.{◌≡◌, refl, sym, ap, ◌∙◌}
use lib.Dec.{ltb}
use lib.ListN.{length, take, drop, length-append, length-drop, length-take}
use lib.Seq.{take_at, drop_at}
use borrow.Author.Tests.{le-leb, lt-leb}
use Rattle.std.specs.Iterator.{AlwaysYields}
use Rattle.std.specs.Slice.Iter.{chunks_exact_steps, chunks_exact_rest, chunks_exact_size}
use Rattle.std.specs.declared.slice.ChunksExact.{ChunksExact}
use Rattle.std.specs.declared.option.Option.{Option}
use Rattle.std.specs.declared.option.Option.TheVariants.{Some, None}
use Rattle.std.specs.List.{position_or_len}
use Rattle.std.proofs.Common.{inl, inr}
use Rattle.std.proofs.lemmas.Bool.{cases_lt}
use Rattle.std.proofs.lemmas.Iterator.{YieldsList}
use Rattle.numbers.specs.Tests.{pick}
use Rattle.numbers.specs.Bytes.{parts}
use Rattle.numbers.proofs.Parts.{parts_end, parts_more}
use Rattle.why_places.specs.Found.{first_from}

module _ (k : ℕ) (some : 0 < k) where
  none : (s : ChunksExact ℕ) (m : List ℕ) → chunks_exact_size s ≡ k → chunks_exact_rest s ≡ m → length m < k → AlwaysYields chunks_exact_steps (λ x. x.now) s (parts k m)
  none s m e r h = rw (parts_end k some m h) (λ x j c. let l = length-append x.now (chunks_exact_rest j) in let q = ap length c.1.0 in let p = ap length r in omega arith)

  read : (n : ℕ) (s : ChunksExact ℕ) (m : List ℕ) → chunks_exact_size s ≡ k → chunks_exact_rest s ≡ m → length m ≤ n → AlwaysYields chunks_exact_steps (λ x. x.now) s (parts k m)
  read zero s m e r h = none s m e r (omega arith)
  read (suc n) s m e r h =
      elim (cases_lt (length m) k) [ inl few ↦ none s m e r few | inr enough ↦ more (read n) enough ]
    where
      more : ((j : ChunksExact ℕ) (l : List ℕ) → chunks_exact_size j ≡ k → chunks_exact_rest j ≡ l → length l ≤ n → AlwaysYields chunks_exact_steps (λ x. x.now) j (parts k l)) → k ≤ length m → AlwaysYields chunks_exact_steps (λ x. x.now) s (parts k m)
      more again enough = rw (parts_more k some m enough) (
        (λ j c. let p = ap length r in omega (arith, c.1.0)),
        λ x j c.
            let p : m ≡ x.now ++ chunks_exact_rest j = sym r ∙ c.1.0 in
            let l : length x.now ≡ k = c.1.1 ∙ e in
            let t : take k m ≡ x.now = rw p (take_at x.now (chunks_exact_rest j) k l) in
            let d : drop k m ≡ chunks_exact_rest j = rw p (drop_at x.now (chunks_exact_rest j) k l) in
            (sym t, again j (drop k m) (c.0 ∙ e) (sym d) (omega (arith, length-drop k m))),
      )

  pub parts_read : {s : ChunksExact ℕ} (m : List ℕ) → chunks_exact_size s ≡ k → chunks_exact_rest s ≡ m → YieldsList chunks_exact_steps (λ x. x.now) s (parts k m)
  parts_read {s} m e r = record { runs = read (length m) s m e r (omega arith) }

  -- a test of the parts may be another one, which answers alike on lists of k bytes
  module _ (p q : List ℕ → Bool) (alike : (b : List ℕ) → length b ≡ k → p b ≡ q b) where
    pub first_alike : (n : ℕ) (m : List ℕ) (i : ℕ) → length m ≤ n → first_from p i (parts k m) ≡ first_from q i (parts k m)
    unfolding first_from
    first_alike zero m i h = rw (parts_end k some m (omega arith))
    first_alike (suc n) m i h =
        elim (cases_lt (length m) k) [ inl few ↦ rw (parts_end k some m few) | inr enough ↦ more (first_alike n) enough ]
      where
        more : ((l : List ℕ) (j : ℕ) → length l ≤ n → first_from p j (parts k l) ≡ first_from q j (parts k l)) → k ≤ length m → first_from p i (parts k m) ≡ first_from q i (parts k m)
        more again enough = rw (parts_more k some m enough, alike (take k m) (length-take k m ∙ omega arith), again (drop k m) (suc i) (omega (arith, length-drop k m)))

-- ---- what `position` answers, as a place

abbrev placed : ℕ → Option ℕ → Option ℕ
placed k None = None
placed k (Some i) = Some (k + i)

abbrev position_of : {A : Type 0} → (A → Bool) → List A → Option ℕ
position_of p xs = cond (ltb (position_or_len p xs) (length xs)) (Some (position_or_len p xs)) None

ltb_next : (m n : ℕ) → ltb (suc m) (suc n) ≡ ltb m n
ltb_next m n = elim (cases_lt m n) [
  | inl a ↦ le-leb (suc (suc m)) (suc n) (omega arith) ∙ sym (le-leb (suc m) n (omega arith))
  | inr b ↦ lt-leb (suc (suc m)) (suc n) (omega arith) ∙ sym (lt-leb (suc m) n (omega arith))
]

later : (b : Bool) (k n : ℕ) → placed k (cond b (Some (suc n)) None) ≡ placed (suc k) (cond b (Some n) None)
later true k n = let e : k + suc n ≡ suc k + n = omega arith in ap Some e
later false k n = refl

position_first : {A : Type 0} (p : A → Bool) (xs : List A) (k : ℕ) → placed k (position_of p xs) ≡ first_from p k xs
unfolding first_from pick
position_first p [] k = refl
position_first p (x ∷ xs) k = go (p x) (position_first p xs (suc k))
  where
    go : (b : Bool) → placed (suc k) (position_of p xs) ≡ first_from p (suc k) xs
        → (let n = cond (not b) (1 + position_or_len p xs) 0 in placed k (cond (ltb n (suc (length xs))) (Some n) None)) ≡ pick b (Some k) (first_from p (suc k) xs)
    go true rest = let front : ltb 0 (suc (length xs)) ≡ true = le-leb 1 (suc (length xs)) (omega arith) in rw (front, add-zero k)
    go false rest = let one : 1 + position_or_len p xs ≡ suc (position_or_len p xs) = omega arith in rw (one, ltb_next (position_or_len p xs) (length xs)) (later (ltb (position_or_len p xs) (length xs)) k (position_or_len p xs) ∙ rest)

abbrev pub as_place : Option ℕ → Option ℕ
as_place None = None
as_place (Some i) = Some i

pub place_first : {A : Type 0} (p : A → Bool) (xs : List A) (r : Option ℕ) → r ≡ cond (ltb (position_or_len p xs) (length xs)) (Some (position_or_len p xs)) None → as_place r ≡ first_from p 0 xs
place_first p xs None e = ap (placed 0) e ∙ position_first p xs 0
place_first p xs (Some i) e = let z : i ≡ 0 + i = omega arith in ap Some z ∙ ap (placed 0) e ∙ position_first p xs 0
