-- The lines rise, and are those of the nicknames that some record has.
-- Assumes nothing.
use Prim.{Unit, tt}
use Prim.Native.Nat.{ℕ, zero, suc, ◌+◌, ◌<◌}
use mathlib.Core.Bool.{Bool, true, false}
use mathlib.Core.List.{List, [], ◌∷◌, ◌++◌}
use mathlib.Core.Path.{◌≡◌, refl, sym, ◌∙◌}
use native.Mathlib.Decide.{ℕ_discrete}
use native.Mathlib.Nat.{zero-add}
use native.Mathlib.Omega.{arith}
use lib.Dec.{eqb}
use borrow.Author.Tests.{eq-eqb, ne_eqb, eqb-true}
use Rattle.numbers.specs.Tests.{pick, both, either, any_of, between}
use Rattle.numbers.proofs.Truth.{pick_true, pick_false, either_second, either_assoc}
use Rattle.table.specs.Record.{record_of, mark_of, empty_of, multihomed_of, nickname_of, learned_state, configured_state, state_of, entry_of, entry_good, with_mark, held, slot_of, marked_slot, unpacked, learned_that, configured_that, slot_that}
use Rattle.table.specs.Slots.{slots_of, slot_at, count_slots}
use Rattle.table.specs.declared.Slot.{Slot}
use Rattle.table.specs.declared.Slot.TheVariants.{Free, Spoilt, Learned, Configured}
use Rattle.report.specs.Report.{learned_with, configured_with, count_of, Line, line_of, line_if, lines_below, nickname_end, lines_of}
use Rattle.report.specs.Claims.{EachLine, Rising, HeldAt, RisingLines, ReportRising}

false_true : ◌≡◌ {A = Bool} false true → ⊥
false_true h = let z : ◌≡◌ {A = ℕ} 0 1 = cc in omega arith

either_first : (a b : Bool) → a ≡ true → either a b ≡ true
unfolding either
either_first true b h = refl
either_first false b h = absurd (false_true h)

any_append : {A : Type 0} (p : A → Bool) (a b : List A) → any_of p (a ++ b) ≡ either (any_of p a) (any_of p b)
unfolding any_of either
any_append p [] b = refl
any_append p (x ∷ a) b = rw (any_append p a b) (sym (either_assoc (p x) (any_of p a) (any_of p b)))

-- ---- lists of lines

pub each_append : (P : Line → Type 0) (a b : List Line) → EachLine P a → EachLine P b → EachLine P (a ++ b)
unfolding EachLine
each_append P [] b h g = g
each_append P (l ∷ a) b h g = (h.0, each_append P a b h.1 g)

pub each_weaker : (P Q : Line → Type 0) → ((l : Line) → P l → Q l) → (a : List Line) → EachLine P a → EachLine Q a
unfolding EachLine
each_weaker P Q f [] h = tt
each_weaker P Q f (l ∷ a) h = (f l h.0, each_weaker P Q f a h.1)

-- a line that may stand there
pub each_if : (P : Line → Type 0) (l : Line) → ((l.learned + l.configured ≡ 0 → ⊥) → P l) → EachLine P (line_if l)
unfolding line_if EachLine pick
each_if P l f = go (eqb (l.learned + l.configured) 0) refl
  where
    go : (b : Bool) → eqb (l.learned + l.configured) 0 ≡ b → EachLine P (pick b [] (l ∷ []))
    go true e = tt
    go false e = (f (λ z. let y : ◌≡◌ {A = Bool} true false = sym (eq-eqb _ _ z) ∙ e in let w : ◌≡◌ {A = ℕ} 0 1 = cc in omega arith), tt)

rising-append : (a b : List Line) → Rising a → Rising b → EachLine (λ l. EachLine (λ m. l.nickname < m.nickname) b) a → Rising (a ++ b)
unfolding Rising EachLine
rising-append [] b h g f = g
rising-append (l ∷ a) b h g f = (each_append (λ m. l.nickname < m.nickname) a b h.0 f.0, rising-append a b h.1 g f.1)

module _ (t : List ℕ) where
  pub lines_next : (n : ℕ) → lines_below (suc n) t ≡ lines_below n t ++ line_if (line_of n t)
  unfolding lines_below
  lines_next n = refl

  -- every line is that of a nickname below n which some record has
  pub lines_each : (P : Line → Type 0) (n : ℕ) → ((x : ℕ) → x < n → ((line_of x t).learned + (line_of x t).configured ≡ 0 → ⊥) → P (line_of x t)) → EachLine P (lines_below n t)
  unfolding lines_below EachLine
  lines_each P zero f = tt
  lines_each P (suc n) f = each_append P (lines_below n t) (line_if (line_of n t)) (lines_each P n (λ x h. f x (omega arith))) (each_if P (line_of n t) (f n (omega arith)))

  rising_if : (l : Line) → Rising (line_if l)
  unfolding line_if pick Rising EachLine
  rising_if l = go (eqb (l.learned + l.configured) 0)
    where
      go : (b : Bool) → Rising (pick b [] (l ∷ []))
      go true = tt
      go false = (tt, tt)

  lines_rising : (n : ℕ) → Rising (lines_below n t)
  unfolding lines_below Rising
  lines_rising zero = tt
  lines_rising (suc n) =
      rising-append (lines_below n t) (line_if (line_of n t)) (lines_rising n) (rising_if (line_of n t))
      (lines_each (λ l. EachLine (λ m. l.nickname < m.nickname) (line_if (line_of n t))) n (λ x h some. each_if (λ m. x < m.nickname) (line_of n t) (λ _. h)))

-- ---- counting

-- what is counted stands somewhere
pub count_some : (p : List ℕ → Bool) (t : List ℕ) (n : ℕ) → (count_slots p 0 n t ≡ 0 → ⊥) → (k : ℕ) × ((k < n) × (p (slot_at k t) ≡ true))
unfolding count_slots
count_some p t zero h = absurd (h refl)
count_some p t (suc n) h = go (count_some p t n) (p (slot_at n t)) refl
  where
    go : ((count_slots p 0 n t ≡ 0 → ⊥) → (k : ℕ) × ((k < n) × (p (slot_at k t) ≡ true)))
        → (b : Bool) → p (slot_at n t) ≡ b → (k : ℕ) × ((k < suc n) × (p (slot_at k t) ≡ true))
    go ih true e = (n, (omega arith, e))
    go ih false e =
        let before : count_slots p 0 n t ≡ 0 → ⊥ = λ z. h (rw (z, zero-add n, e) (zero-add (pick {A = ℕ} false 1 0) ∙ pick_false {A = ℕ} false 1 0 refl)) in
        let r = ih before in
        (r.0, (omega (arith, r.1.0), r.1.1))

-- what stands somewhere is counted
pub count_has : (p : List ℕ → Bool) (t : List ℕ) (k n : ℕ) → k < n → p (slot_at k t) ≡ true → 0 < count_slots p 0 n t
unfolding count_slots
count_has p t k zero h e = absurd (omega arith)
count_has p t k (suc n) h e = go (λ l. count_has p t k n l e) (ℕ_discrete k n)
  where
    go : (k < n → 0 < count_slots p 0 n t) → Dec (k ≡ n) → 0 < count_slots p 0 n t + pick (p (slot_at (0 + n) t)) 1 0
    go ih (yes q) =
        let here : ◌≡◌ {A = ℕ} (pick (p (slot_at (0 + n) t)) 1 0) 1 = rw (zero-add n, ← q, e) (pick_true {A = ℕ} true 1 0 refl) in
        omega arith
    go ih (no q) = let r = ih (omega arith) in omega arith

-- ---- nicknames

-- a record's nickname has 16 bits
abbrev pub SmallNickname : Slot → Type 0
SmallNickname Free = Unit {0}
SmallNickname Spoilt = Unit {0}
SmallNickname (Learned e) = e.nickname < nickname_end
SmallNickname (Configured e) = e.nickname < nickname_end

small_pick : (b : Bool) (x y : Slot) → SmallNickname x → SmallNickname y → SmallNickname (pick b x y)
unfolding pick
small_pick true x y h g = h
small_pick false x y h g = g

small_slot : (n : ℕ) → SmallNickname (slot_of n)
unfolding slot_of held entry_of
small_slot n =
    let small : nickname_of n < nickname_end = omega arith in
    small_pick (eqb n 0) Free _ tt (small_pick (both (between learned_state configured_state (state_of n)) (entry_good (entry_of n))) _ Spoilt (small_pick (eqb (state_of n) learned_state) (Learned (entry_of n)) (Configured (entry_of n)) small small) tt)

small_marked : (b : ℕ) (s : Slot) → SmallNickname s → SmallNickname (marked_slot b s)
unfolding marked_slot
small_marked b Free h = small_pick (eqb b 0) Free Spoilt tt tt
small_marked b Spoilt h = tt
small_marked b (Learned e) h = small_pick (eqb (empty_of b) 0) (Learned (with_mark (eqb (multihomed_of b) 1) e)) Spoilt h tt
small_marked b (Configured e) h = small_pick (eqb (empty_of b) 0) (Configured (with_mark (eqb (multihomed_of b) 1) e)) Spoilt h tt

pub small_unpacked : (r : List ℕ) → SmallNickname (unpacked r)
unfolding unpacked
small_unpacked r = small_marked (mark_of r) (slot_of (record_of r)) (small_slot (record_of r))

pub held_small : (x : ℕ) (s : Slot) → SmallNickname s → slot_that (λ e. eqb e.nickname x) s ≡ true → x < nickname_end
held_small x Free h e = absurd (false_true e)
held_small x Spoilt h e = absurd (false_true e)
held_small x (Learned r) h e = let q = eqb-true r.nickname x e in omega arith
held_small x (Configured r) h e = let q = eqb-true r.nickname x e in omega arith

-- a slot with the nickname is learned or configured
either_that : (x : ℕ) (s : Slot) → slot_that (λ e. eqb e.nickname x) s ≡ either (learned_that (λ e. eqb e.nickname x) s) (configured_that (λ e. eqb e.nickname x) s)
unfolding either
either_that x Free = refl
either_that x Spoilt = refl
either_that x (Learned e) = go (eqb e.nickname x)
  where
    go : (b : Bool) → b ≡ either b false
    go true = refl
    go false = refl
either_that x (Configured e) = refl

module _ (t : List ℕ) where
  some_held : (x : ℕ) → ((line_of x t).learned + (line_of x t).configured ≡ 0 → ⊥) → (k : ℕ) × ((k < slots_of t) × HeldAt x t k)
  unfolding learned_with configured_with either
  some_held x h = go (ℕ_discrete (count_of (learned_with x) t) 0)
    where
      go : Dec (count_of (learned_with x) t ≡ 0) → (k : ℕ) × ((k < slots_of t) × HeldAt x t k)
      go (yes z) =
          let r = count_some (configured_with x) t (slots_of t) (λ y. h (omega arith)) in
          (r.0, (r.1.0, either_that x (unpacked (slot_at r.0 t)) ∙ either_second (learned_that (λ e. eqb e.nickname x) (unpacked (slot_at r.0 t))) (configured_that (λ e. eqb e.nickname x) (unpacked (slot_at r.0 t))) r.1.1))
      go (no z) =
          let r = count_some (learned_with x) t (slots_of t) z in
          (r.0, (r.1.0, either_that x (unpacked (slot_at r.0 t)) ∙ either_first (learned_that (λ e. eqb e.nickname x) (unpacked (slot_at r.0 t))) (configured_that (λ e. eqb e.nickname x) (unpacked (slot_at r.0 t))) r.1.1))

  held-counted : (x k : ℕ) → k < slots_of t → HeldAt x t k → (line_of x t).learned + (line_of x t).configured ≡ 0 → ⊥
  unfolding learned_with configured_with either
  held-counted x k h e z = go (learned_with x (slot_at k t)) refl
    where
      go : (b : Bool) → learned_with x (slot_at k t) ≡ b → ⊥
      go true q = let c = count_has (learned_with x) t k (slots_of t) h q in omega arith
      go false q =
          let other : configured_with x (slot_at k t) ≡ true = sym (either_that x (unpacked (slot_at k t)) ∙ rw q) ∙ e in
          let c = count_has (configured_with x) t k (slots_of t) h other in
          omega arith

  any_if : (x n : ℕ) → x ≡ n → ((line_of x t).learned + (line_of x t).configured ≡ 0 → ⊥) → any_of (λ l. eqb l.nickname x) (line_if (line_of n t)) ≡ true
  unfolding line_if pick any_of either
  any_if x n q some =
      let none : eqb ((line_of n t).learned + (line_of n t).configured) 0 ≡ false = ne_eqb _ _ (rw q at some) in
      rw none (rw (eq-eqb n x (sym q)))

  any-listed : (x n : ℕ) → x < n → ((line_of x t).learned + (line_of x t).configured ≡ 0 → ⊥) → any_of (λ l. eqb l.nickname x) (lines_below n t) ≡ true
  unfolding lines_below
  any-listed x zero h some = absurd (omega arith)
  any-listed x (suc n) h some = any_append (λ l. eqb l.nickname x) (lines_below n t) (line_if (line_of n t)) ∙ go (λ l. any-listed x n l some) (ℕ_discrete x n)
    where
      go : (x < n → any_of (λ l. eqb l.nickname x) (lines_below n t) ≡ true) → Dec (x ≡ n)
          → either (any_of (λ l. eqb l.nickname x) (lines_below n t)) (any_of (λ l. eqb l.nickname x) (line_if (line_of n t))) ≡ true
      go ih (yes q) = either_second _ _ (any_if x n q some)
      go ih (no q) = either_first _ _ (ih (omega arith))

  rising_lines : RisingLines t
  unfolding lines_of
  rising_lines = record {
    rising = lines_rising t nickname_end;
    held = lines_each t (λ l. (k : ℕ) × ((k < slots_of t) × HeldAt l.nickname t k)) nickname_end (λ x h some. some_held x some);
    counts = lines_each t (λ l. l ≡ line_of l.nickname t) nickname_end (λ x h some. refl);
    listed = λ x k h e. any-listed x nickname_end (held_small x (unpacked (slot_at k t)) (small_unpacked (slot_at k t)) e) (held-counted x k h e);
  }

pub report_rising : ReportRising
report_rising t = rising_lines t
