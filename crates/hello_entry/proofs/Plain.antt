-- What a taker takes where it does not refuse, by the numbers at its place: how many numbers, and what they make.
-- Assumes nothing.
use Prim.Native.Nat.{ℕ, zero, suc, ◌+◌, ◌-◌, ◌*◌, ◌≤◌}
use mathlib.Core.Bool.{Bool, true, false}
use mathlib.Core.List.{List, [], ◌∷◌, ◌++◌, flat_map}
use mathlib.Core.Path.{◌≡◌, refl, sym, ap, ◌∙◌}
use native.Mathlib.Omega.{arith}
use lib.Dec.{leb}
use lib.ListN.{length, drop, get_or, length-drop, length-append}
use borrow.Author.Tests.{leb-true, leb-false}
use Rattle.numbers.specs.Tests.{pick}
use Rattle.numbers.specs.Result.{Outcome}
use Rattle.numbers.proofs.Answers.{refused_got, got_got, then_got, check_got}
use Rattle.hello.specs.Area.{Taken, Taker, taken, take_one, then, take_many}
use Rattle.hello_area.specs.Entries.{via, end_in, reach}
use Rattle.hello_area.proofs.Places.{reach_in, reach_over}
use Rattle.hello_ends.proofs.Numbers.{here}
use Rattle.hello_entry.specs.Bytes.{run}
use Rattle.std.specs.Prelude.{Ok, Err}
use Rattle.numbers.specs.declared.refusals.Refusal.TheVariants.{HelloMalformed}

-- w numbers from the place i on, as x
pub record Took {A : Type 0} (ns : List ℕ) (i w : ℕ) (x : A) (t : Taken A) : Type 0 where
  pub inside : i + w ≤ length ns
  pub is : t ≡ record { value = x; rest = drop (i + w) ns }

abbrev pub Plain : {A : Type 0} → Taker A → List ℕ → ℕ → ℕ → A → Type 0
Plain {A} p ns i w x = (t : Taken A) → i ≤ length ns → p (drop i ns) ≡ Ok t → Took ns i w x t

pub took_as : {A : Type 0} (ns : List ℕ) (i w v : ℕ) (x : A) (t : Taken A) → w ≡ v → Took ns i w x t → Took ns i v x t
took_as ns i w v x t e s = rw (sym e) s

pub plain_taken : {A : Type 0} (ns : List ℕ) (i : ℕ) (x : A) → Plain (taken x) ns i 0 x
plain_taken ns i x t h e =
    let z : i ≡ i + 0 = omega arith in
    record { inside = omega arith; is = sym (got_got _ t e) ∙ ap (λ (n : ℕ). record { value = x; rest = drop n ns }) z }

none_at : (ns : List ℕ) (i : ℕ) → length ns ≤ i → drop i ns ≡ []
none_at ns i h = none (drop i ns) (let d = length-drop i ns in omega arith)
  where
    none : (l : List ℕ) → length l ≤ 0 → l ≡ []
    none [] h = refl
    none (x ∷ l) h = absurd (omega arith)

pub plain_one : (ns : List ℕ) (i : ℕ) → Plain take_one ns i 1 (get_or ns i 0)
unfolding take_one
plain_one ns i t h e = go (leb (i + 1) (length ns)) refl
  where
    go : (c : Bool) → leb (i + 1) (length ns) ≡ c → Took ns i 1 (get_or ns i 0) t
    go true f =
        let g = leb-true (i + 1) (length ns) f in
        record { inside = g; is = sym (got_got _ t (ap take_one (sym (here ns i (omega arith))) ∙ e)) }
    go false f =
        let g = leb-false (i + 1) (length ns) f in
        refused_got HelloMalformed t (ap take_one (sym (none_at ns i (omega arith))) ∙ e)

-- one behind the other
pub plain_then : {A B : Type 0} (p : Taker A) (k : A → Taker B) (ns : List ℕ) (i w v n : ℕ) (x : A) (y : B) → w + v ≡ n → Plain p ns i w x → Plain (k x) ns (i + w) v y → Plain (then p k) ns i n y
unfolding then
plain_then p k ns i w v n x y sum a b t h e =
    let s = then_got (p (drop i ns)) _ t e in
    let u = a s.0 h s.1 in
    let r = b t u.inside (ap (λ (z : Taken _). k z.value z.rest) (sym u.is) ∙ s.2) in
    let q = r.inside in
    let j : i + w + v ≡ i + n = omega arith in
    record { inside = omega arith; is = r.is ∙ ap (λ (m : ℕ). record { value = y; rest = drop m ns }) j }

-- through a test, in another form
pub plain_via : {A B : Type 0} (p : Taker A) (g : A → Bool) (f : A → B) (ns : List ℕ) (i w : ℕ) (x : A) → Plain p ns i w x → Plain (via p g f) ns i w (f x)
unfolding via
plain_via p g f ns i w x a t h e =
    let s = then_got (p (drop i ns)) _ t e in
    let u = a s.0 h s.1 in
    let c = check_got (g s.0.value) HelloMalformed _ t s.2 in
    record { inside = u.inside; is = sym (got_got _ t c.1) ∙ ap (λ (z : Taken _). record { value = f z.value; rest = z.rest }) u.is }

-- the test was passed
pub via_good : {A B : Type 0} (p : Taker A) (g : A → Bool) (f : A → B) (ns : List ℕ) (i w : ℕ) (x : A) → Plain p ns i w x → (t : Taken B) → i ≤ length ns → via p g f (drop i ns) ≡ Ok t → g x ≡ true
unfolding via
via_good p g f ns i w x a t h e =
    let s = then_got (p (drop i ns)) _ t e in
    let u = a s.0 h s.1 in
    ap (λ (z : Taken _). g z.value) (sym u.is) ∙ (check_got (g s.0.value) HelloMalformed _ t s.2).0

pub plain_pick : {A : Type 0} (c : Bool) (p q : Taker A) (ns : List ℕ) (i w v : ℕ) (x y : A) → Plain p ns i w x → Plain q ns i v y → Plain (pick c p q) ns i (pick c w v) (pick c x y)
unfolding pick
plain_pick true p q ns i w v x y a b = a
plain_pick false p q ns i w v x y a b = b

-- ---- many of one

-- what m of them make, the first at the place i, each of w numbers
unfoldable pub each : {A : Type 0} → (ℕ → A) → ℕ → ℕ → ℕ → List A
each f w i zero = []
each f w i (suc m) = f i ∷ each f w (i + w) m

pub plain_many : {A : Type 0} (p : Taker A) (ns : List ℕ) (w : ℕ) (f : ℕ → A) → ((j : ℕ) → Plain p ns j w (f j)) → (m i : ℕ) → Plain (take_many p m) ns i (w * m) (each f w i m)
unfolding take_many each
plain_many p ns w f a zero i t = λ h e. took_as ns i 0 (w * 0) [] t (omega arith) (plain_taken ns i [] t h e)
plain_many p ns w f a (suc m) i t =
    plain_then p _ ns i w (w * m) (w * suc m) (f i) (each f w i (suc m)) (omega arith) (a i)
    (plain_then (take_many p m) _ ns (i + w) (w * m) 0 (w * m) (each f w (i + w) m) (each f w i (suc m)) (omega arith) (plain_many p ns w f a m (i + w))
    (plain_taken ns (i + w + w * m) (each f w i (suc m)))) t

pub each_run : (f : ℕ → List ℕ) (w m i : ℕ) → flat_map (λ (x : List ℕ). x) (each f w i m) ≡ run f w i m
unfolding each flat_map run
each_run f w zero i = refl
each_run f w (suc m) i = ap (λ (x : List ℕ). f i ++ x) (each_run f w m (i + w))

pub length_run : (f : ℕ → List ℕ) (w b : ℕ) → ((j : ℕ) → length (f j) ≡ b) → (m i : ℕ) → length (run f w i m) ≡ b * m
unfolding run
length_run f w b long zero i = omega arith
length_run f w b long (suc m) i =
    let a = length-append (f i) (run f w (i + w) m) in
    let n = long i in
    let r = length_run f w b long m (i + w) in
    omega arith

-- ---- where it does not refuse

pub record Good {A : Type 0} (p : Taker A) (ns : List ℕ) (i : ℕ) : Type 0 where
  pub starts : i ≤ length ns
  pub took : Taken A
  pub is : p (drop i ns) ≡ Ok took
  pub ends : reach p ns i ≡ length ns - length took.rest

pub reach_got : {A : Type 0} (p : Taker A) (ns : List ℕ) (i : ℕ) → reach p ns i ≤ length ns → Good p ns i
reach_got p ns i h = go (leb i (length ns)) refl
  where
    found : (z : Outcome (Taken _)) → p (drop i ns) ≡ z → i ≤ length ns → Good p ns i
    found (Err m) e g = let r = reach_in p ns i g ∙ ap (end_in ns) e in absurd (omega arith)
    found (Ok t) e g = record { starts = g; took = t; is = e; ends = reach_in p ns i g ∙ ap (end_in ns) e }

    go : (c : Bool) → leb i (length ns) ≡ c → Good p ns i
    go true f = found (p (drop i ns)) refl (leb-true i (length ns) f)
    go false f = let r = reach_over p ns i (leb-false i (length ns) f) in absurd (omega arith)
