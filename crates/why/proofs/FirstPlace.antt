-- The place of the first element that passes a test: it is there, it passes, and none before it does.
-- Assumes nothing.
use Prim.Native.Nat.{ℕ, suc}
use mathlib.Core.Bool.{Bool, true, false}
use mathlib.Core.List.Memᴰ
use mathlib.Core.List.{List, [], ◌∷◌, Memᴰ}
use mathlib.Core.Logic.{◌↔◌}
use mathlib.Core.Path.{◌≡◌, refl, sym, ap, ◌∙◌}
use Rattle.numbers.specs.Tests.{pick, either, any_of}
use Rattle.numbers.proofs.Truth.{false_true}
use Rattle.why.specs.Why.{place_of}
use Rattle.why.specs.Claims.{FirstAt}

module _ {A : Type 0} (p : A → Bool) where
  abbrev Passes : A → Type 0
  Passes x = p x ≡ true

  here : (x : A) (xs : List A) → p x ≡ true → FirstAt Passes 0 (x ∷ xs)
  here x xs h = record {
    before = [];
    at = x;
    after = xs;
    there = refl;
    place = refl;
    brings = h;
    none_lower = λ y m. absurd (Memᴰ.not-nil m);
  }

  not_head : (x : A) (before : List A) → p x ≡ false → ((y : A) → Memᴰ y before → Passes y → ⊥) → (y : A) → Memᴰ y (x ∷ before) → Passes y → ⊥
  not_head x before miss none y (Memᴰ.head e) h = false_true (sym miss ∙ ap p (sym e) ∙ h)
  not_head x before miss none y (Memᴰ.tail m) h = none y m h

  later : (x : A) (xs : List A) (k : ℕ) → p x ≡ false → FirstAt Passes k xs → FirstAt Passes (suc k) (x ∷ xs)
  later x xs k miss f = record {
    before = x ∷ f.before;
    at = f.at;
    after = f.after;
    there = ap (λ (r : List A). x ∷ r) f.there;
    place = ap suc f.place;
    brings = f.brings;
    none_lower = not_head x f.before miss f.none_lower;
  }

  by_head : (x : A) (xs : List A) (b : Bool) → p x ≡ b → (any_of p xs ≡ true → FirstAt Passes (place_of p xs) xs) → either b (any_of p xs) ≡ true → FirstAt Passes (pick b 0 (suc (place_of p xs))) (x ∷ xs)
  unfolding pick either
  by_head x xs true e rest h = here x xs e
  by_head x xs false e rest h = later x xs (place_of p xs) e (rest h)

  pub first_at : (xs : List A) → any_of p xs ≡ true → FirstAt (λ x. p x ≡ true) (place_of p xs) xs
  unfolding any_of place_of
  first_at [] h = false_true h
  first_at (x ∷ xs) h = by_head x xs (p x) refl (first_at xs) h

-- where the test of one says P
pub first_says : {A : Type 0} (p : A → Bool) (P : A → Type 0) → ((x : A) → (p x ≡ true) ↔ P x) → (xs : List A) → any_of p xs ≡ true → FirstAt P (place_of p xs) xs
first_says p P says xs h =
    let f = first_at p xs h in
    record {
      before = f.before;
      at = f.at;
      after = f.after;
      there = f.there;
      place = f.place;
      brings = (says f.at).0 f.brings;
      none_lower = λ x m q. f.none_lower x m ((says x).1 q);
    }
