-- Laws of the cursor's code, return by return.
-- Assumes nothing.
use Prim.Native.Nat.{ℕ, ◌+◌, ◌-◌, ◌*◌, ◌/◌, ◌%◌, ◌^◌, ◌<◌, ◌≤◌}
use mathlib.Core.Bool.{Bool, true, false}
use mathlib.Core.List.{List, [], ◌∷◌}
use mathlib.Core.Path.{◌≡◌, refl, sym, ap, ◌∙◌}
use native.Mathlib.Omega.{arith}
use lib.Dec.{leb, eqb}
use lib.ListN.{length, set}
use borrow.Author.Tests.{eq-eqb, ne_eqb, leb-true}
use Rattle.numbers.specs.Tests.{pick, both}
use Rattle.numbers.specs.Bytes.{bytes_of}
use Rattle.numbers.proofs.Truth.{both_true}
use Rattle.frame_copy.specs.Areas.{pasted}
use Rattle.hello.specs.Writing.{head_of}
use Rattle.hello_put.specs.declared.Cursor.{Cursor}
use Rattle.hello_put.specs.Placing.{takes, stepped, opening, opened}

-- ---- the head of a TLV

module _ (h : ℕ) where
  pub head-capability : h ≡ 242 → 5 ≡ length (head_of h)
  unfolding head_of pick
  head-capability e = rw (eq-eqb h 242 e)

  pub head-geninfo : (h ≡ 242 → ⊥) → 3 ≡ length (head_of h)
  unfolding head_of pick
  head-geninfo d = rw (ne_eqb h 242 d)

-- as a number
capability-opening : (n : ℕ) → n ≤ 250 → bytes_of 7 (242 * 0x1_0000_0000_0000 + (5 + n) * 0x100_0000_0000) ≡ opening 242 n
unfolding bytes_of opening head_of pick
capability-opening n h =
    let x : ℕ = 242 * 0x1_0000_0000_0000 + (5 + n) * 0x100_0000_0000 in
    let a : x / 256 ^ 6 % 256 ≡ 242 = omega arith in
    let b : x / 256 ^ 5 % 256 ≡ 5 + n = omega arith in
    let c : x / 256 ^ 4 % 256 ≡ 0 = omega arith in
    let d : x / 256 ^ 3 % 256 ≡ 0 = omega arith in
    let e : x / 256 ^ 2 % 256 ≡ 0 = omega arith in
    let f : x / 256 ^ 1 % 256 ≡ 0 = omega arith in
    let g : x / 256 ^ 0 % 256 ≡ 0 = omega arith in
    rw (a, b, c, d, e, f, g)

geninfo-opening : (k n : ℕ) → (k ≡ 242 → ⊥) → k < 256 → n ≤ 252 → bytes_of 5 (k * 0x1_0000_0000 + (3 + n) * 0x100_0000 + 1) ≡ opening k n
unfolding bytes_of opening head_of pick
geninfo-opening k n o j h =
    let x : ℕ = k * 0x1_0000_0000 + (3 + n) * 0x100_0000 + 1 in
    let a : x / 256 ^ 4 % 256 ≡ k = omega arith in
    let b : x / 256 ^ 3 % 256 ≡ 3 + n = omega arith in
    let c : x / 256 ^ 2 % 256 ≡ 0 = omega arith in
    let d : x / 256 ^ 1 % 256 ≡ 0 = omega arith in
    let e : x / 256 ^ 0 % 256 ≡ 1 = omega arith in
    rw (ne_eqb k 242 o, a, b, c, d, e)

module _ (h n at : ℕ) (o : List ℕ) (byte : h < 256) (size : length (head_of h) + n ≤ 255) where
  pub room_capability : h ≡ 242 → at + (2 + length (head_of h)) ≤ length o → at + 7 ≤ length o
  room_capability e r = let s = head-capability h e in omega arith

  pub room_geninfo : (h ≡ 242 → ⊥) → at + (2 + length (head_of h)) ≤ length o → at + 5 ≤ length o
  room_geninfo d r = let s = head-geninfo h d in omega arith

  pub opened-capability : h ≡ 242 → (u : List ℕ) → u ≡ pasted o at (bytes_of 7 (h * 0x1_0000_0000_0000 + (5 + n) * 0x100_0000_0000)) → u ≡ pasted o at (opening h n)
  opened-capability e u f = let s = head-capability h e in f ∙ rw e (ap (pasted o at) (capability-opening n (omega arith)))

  pub opened-geninfo : (h ≡ 242 → ⊥) → (u : List ℕ) → u ≡ pasted o at (bytes_of 5 (h * 0x1_0000_0000 + (3 + n) * 0x100_0000 + 1)) → u ≡ pasted o at (opening h n)
  opened-geninfo d u f = let s = head-geninfo h d in f ∙ ap (pasted o at) (geninfo-opening h n d byte (omega arith))

-- ---- whether the open TLV takes it

module _ (c : Cursor) (h n : ℕ) where
  pub takes_other : (c.holder ≡ h → ⊥) → false ≡ takes c h n
  unfolding takes both
  takes_other d = rw (ne_eqb c.holder h d)

  pub takes_same : c.holder ≡ h → leb (c.at + n) (c.start + 257) ≡ takes c h n
  unfolding takes both
  takes_same e = rw (eq-eqb c.holder h e)

  module _ (r : Bool) (er : r ≡ takes c h n) where
    pub taken-within : r ≡ true → c.at + n ≤ c.start + 257
    unfolding takes
    taken-within e = leb-true (c.at + n) (c.start + 257) (both_true (eqb c.holder h) _ (sym er ∙ e)).1

    pub step_taken : r ≡ true → record { holder = h; start = c.start; at = c.at + n } ≡ stepped c h n
    unfolding stepped pick
    step_taken e = rw (← er, e)

    pub step_new : r ≡ false → (m : ℕ) → m ≡ length (head_of h) → record { holder = h; start = c.at; at = c.at + (2 + m) + n } ≡ stepped c h n
    unfolding stepped pick
    step_new e m em = rw (← er, e, em)

-- ---- the room that it asks for

module _ (c : Cursor) (h n : ℕ) where
  pub step_grows : c.at + n ≤ (stepped c h n).at
  unfolding stepped pick
  step_grows = go (takes c h n)
    where
      go : (r : Bool) → c.at + n ≤ (pick {A = Cursor} r (record { holder = h; start = c.start; at = c.at + n }) (record { holder = h; start = c.at; at = c.at + (2 + length (head_of h)) + n })).at
      go true = omega arith
      go false = omega arith

  module _ (o : List ℕ) (room : (stepped c h n).at ≤ length o) where
    pub step_small : length o * 1 < 2 ^ 63 → c.at < 3 * 2 ^ 62
    step_small f = let g = step_grows in omega arith

    pub step_fits : length o * 1 < 2 ^ 63 → c.at + n < 2 ^ 64
    step_fits f = let g = step_grows in omega arith

    module _ (r : Bool) (er : r ≡ takes c h n) where
      pub grown_room : r ≡ true → c.at + n ≤ length o
      grown_room e = let a = step_grows in omega arith

      pub opened_grown : r ≡ true → (u : List ℕ) → u ≡ set o (c.start + 1) (c.at + n - (c.start + 2)) → u ≡ opened o c h n
      unfolding opened pick
      opened_grown e u f = f ∙ rw (← er, e)

      pub opened_room : r ≡ false → c.at + (2 + length (head_of h)) ≤ length o
      opened_room e = let a = ap (λ (d : Cursor). d.at) (step_new c h n r er e (length (head_of h)) refl) in omega arith

      module _ (new : r ≡ false) (m : ℕ) (em : m ≡ length (head_of h)) (f : length o * 1 < 2 ^ 63) where
        pub head_fits : c.at + (2 + m) < 2 ^ 64
        head_fits = let a = opened_room new in omega arith

        pub after_fits : c.at + (2 + m) + n < 2 ^ 64
        after_fits = let a = ap (λ (d : Cursor). d.at) (step_new c h n r er new m em) in omega arith

      pub opened_new : r ≡ false → (u : List ℕ) → u ≡ pasted o c.at (opening h n) → u ≡ opened o c h n
      unfolding opened pick
      opened_new e u f = f ∙ rw (← er, e)

-- a TLV starts before its end
pub step_ordered : (c : Cursor) (h n : ℕ) → c.start ≤ c.at → (stepped c h n).start ≤ (stepped c h n).at
unfolding stepped pick
step_ordered c h n e = go (takes c h n)
  where
    new : Cursor
    new = record { holder = h; start = c.at; at = c.at + (2 + length (head_of h)) + n }

    same : Cursor
    same = record { holder = h; start = c.start; at = c.at + n }

    go : (r : Bool) → (pick {A = Cursor} r same new).start ≤ (pick {A = Cursor} r same new).at
    go true = omega arith
    go false = omega arith

-- at most type, length and the longer head come with it
pub step_most : (c : Cursor) (h n : ℕ) → (stepped c h n).at ≤ c.at + 7 + n
unfolding stepped pick head_of
step_most c h n = go (takes c h n) (eqb h 242)
  where
    go : (r k : Bool) → (pick {A = Cursor} r (record { holder = h; start = c.start; at = c.at + n }) (record { holder = h; start = c.at; at = c.at + (2 + length (pick {A = List ℕ} k (0 ∷ 0 ∷ 0 ∷ 0 ∷ 0 ∷ []) (0 ∷ 0 ∷ 1 ∷ []))) + n })).at ≤ c.at + 7 + n
    go true k = omega arith
    go false true = omega arith
    go false false = omega arith
