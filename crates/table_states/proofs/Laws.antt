-- Laws of a record by its front, its first four bytes as one number: whether its entry is good, whether it is learned, spoilt or free.
-- Assumes nothing.
use Prim.Native.Nat.{ℕ, ◌+◌, ◌-◌, ◌*◌, ◌/◌, ◌%◌, ◌^◌, ◌<◌, ◌≤◌}
use mathlib.Core.Bool.{Bool, true, false, not, ◌&&◌, ◌||◌}
use mathlib.Core.Path.{◌≡◌, refl, sym, ap, ◌∙◌}
use native.Mathlib.Decide.{ℕ_discrete, dec_lt}
use native.Mathlib.Omega.{arith}
use lib.Dec.{leb, eqb}
use borrow.Author.Tests.{le-leb, eq-eqb, ne_eqb, eqb-true, eqb-false, not-false}
use Rattle.numbers.specs.Tests.{both, pick, between}
use Rattle.numbers.specs.Ranges.{individual, group_bit, nickname_good, last_nickname, first_vlan, last_vlan, vlan_good}
use Rattle.numbers.proofs.Truth.{and_both, not_true_false, both_true, both_left, both_right, between_in, between_is, between_below, between_above, or_neither, both_only}
use Rattle.table.specs.Record.{state_of, kind_of, label_of, mac_of, nickname_of, learned_state, configured_state, label_from, label_good, entry_of, entry_good, slot_of, is_learned, is_spoilt, is_free}
use Rattle.table.proofs.Contents.{label_test_lem, individual_test, free_is, learned_is, spoilt_is}

-- ---- the numbers of the code: the fronts without the state, and with it

abbrev first_front : ℕ
first_front = first_vlan * 2 ^ 5

abbrev high_front : ℕ
high_front = (last_vlan + 1) * 2 ^ 5

abbrev last_vlan_front : ℕ
last_vlan_front = 2 ^ 29 - 1

abbrev first_learned : ℕ
first_learned = learned_state * 2 ^ 30 + first_front

abbrev last_learned : ℕ
last_learned = (learned_state + 1) * 2 ^ 30 - 1

abbrev last_configured : ℕ
last_configured = (configured_state + 1) * 2 ^ 30 - 1

-- the last nickname without its low bits
abbrev last_high : ℕ
last_high = last_nickname / 2 ^ 3

-- ---- tests of the code

pub range_in : (low high x : ℕ) → leb low x && leb x high ≡ true → (low ≤ x) × (x ≤ high)
unfolding between
range_in low high x e = between_is low high x (sym (and_both (leb low x) (leb x high)) ∙ e)

pub range_out : (low high x : ℕ) → leb low x && leb x high ≡ false → low ≤ x → x ≤ high → ⊥
range_out low high x e p q =
    let t : leb low x && leb x high ≡ true = rw (le-leb low x p, le-leb x high q) in
    let z : ◌≡◌ {A = ℕ} 0 1 = cc in
    omega arith

-- ---- the nickname

module _ (y h : ℕ) (is : h ≡ y / 2 ^ 3) where
  pub nickname_in : leb 1 h && leb h last_high ≡ true → true ≡ nickname_good y
  unfolding nickname_good
  nickname_in e = let r = range_in 1 last_high h e in sym (between_in 1 last_nickname y (omega arith) (omega arith))

  pub nickname_few : h ≡ 0 → (l : ℕ) → l ≡ y % 2 ^ 3 → leb 1 l ≡ nickname_good y
  unfolding nickname_good between
  nickname_few e l low =
      let same : l ≡ y = omega arith in
      rw (same, le-leb y last_nickname (omega arith)) (both_only (leb 1 y))

  pub nickname_out : leb 1 h && leb h last_high ≡ false → (h ≡ 0 → ⊥) → false ≡ nickname_good y
  unfolding nickname_good
  nickname_out e some = go (dec_lt last_high h)
    where
      go : Dec (last_high < h) → false ≡ between 1 last_nickname y
      go (yes l) = sym (between_above 1 last_nickname y (omega arith))
      go (no l) = absurd (range_out 1 last_high h e (go_1 (dec_lt h 1)) (omega arith))
        where
          go_1 : Dec (h < 1) → 1 ≤ h
          go_1 (yes z) = absurd (some (omega arith))
          go_1 (no z) = omega arith

-- ---- the entry, by the first four bytes without the state

vlan_out : (k x : ℕ) → k ≡ 0 → between first_vlan last_vlan x ≡ false → label_good (label_from k x) ≡ false
unfolding label_from vlan_good pick
vlan_out k x e h = rw (e, h)

label-in : (k x : ℕ) → k < 2 → x < 2 ^ 24 → (k ≡ 0 → (1 ≤ x) × (x ≤ last_vlan)) → label_good (label_from k x) ≡ true
unfolding vlan_good
label-in k x hk hx f = sym (label_test_lem k x hk hx (vlan_good x) refl) ∙ go (ℕ_discrete k 0)
  where
    go : Dec (k ≡ 0) → eqb k 1 || between first_vlan last_vlan x ≡ true
    go (yes e) = let r = f e in rw (e, between_in first_vlan last_vlan x r.0 r.1)
    go (no e) = let o : k ≡ 1 = omega arith in rw o

vlan_in_lem : (k x : ℕ) → k < 2 ^ 29 → x ≡ k / 2 ^ 5 % 2 ^ 24 → first_front ≤ k → leb high_front k && leb k last_vlan_front ≡ false → (1 ≤ x) × (x ≤ last_vlan)
vlan_in_lem k x small label low above = (omega arith, go (dec_lt k high_front))
  where
    go : Dec (k < high_front) → x ≤ last_vlan
    go (yes l) = omega arith
    go (no l) = absurd (range_out high_front last_vlan_front k above (omega arith) (omega arith))

module _ (n k : ℕ) (is : k ≡ n / 2 ^ 80 % 2 ^ 30) where
  pub entry_vlan_0 : k < first_front → false ≡ entry_good (entry_of n)
  unfolding entry_good entry_of
  entry_vlan_0 h = sym (both_left _ _ (vlan_out (kind_of n) (label_of n) (omega arith) (between_below first_vlan last_vlan (label_of n) (omega arith))))

  entry_vlan_above : leb high_front k && leb k last_vlan_front ≡ true → false ≡ entry_good (entry_of n)
  unfolding entry_good entry_of
  entry_vlan_above e =
      let r = range_in high_front last_vlan_front k e in
      sym (both_left _ _ (vlan_out (kind_of n) (label_of n) (omega arith) (between_above first_vlan last_vlan (label_of n) (omega arith))))

  entry-group : (g : ℕ) → g ≡ group_bit (mac_of n) → (g ≡ 0 → ⊥) → false ≡ entry_good (entry_of n)
  unfolding entry_good entry_of
  entry-group g e h =
      let group : individual (mac_of n) ≡ false = sym (individual_test (mac_of n) (omega arith)) ∙ ne_eqb (group_bit (mac_of n)) 0 (λ z. h (e ∙ z)) in
      sym (both_right _ _ (both_left _ _ group))

  -- a group address or a VLAN above FFE
  pub entry-either : (g : ℕ) → g ≡ group_bit (mac_of n) → not (eqb g 0) || (leb high_front k && leb k last_vlan_front) ≡ true → false ≡ entry_good (entry_of n)
  entry-either g e h = go (eqb g 0) refl h
    where
      go : (z : Bool) → eqb g 0 ≡ z → not z || (leb high_front k && leb k last_vlan_front) ≡ true → false ≡ entry_good (entry_of n)
      go true z p = entry_vlan_above p
      go false z p = entry-group g e (eqb-false g 0 z)

  entry_rest : first_front ≤ k → leb high_front k && leb k last_vlan_front ≡ false → (g : ℕ) → g ≡ group_bit (mac_of n) → g ≡ 0 → (b : Bool) → b ≡ nickname_good (nickname_of n) → b ≡ entry_good (entry_of n)
  unfolding entry_good entry_of both
  entry_rest low above g e z b h =
      let label : label_good (label_from (kind_of n) (label_of n)) ≡ true = label-in (kind_of n) (label_of n) (omega arith) (omega arith) (λ v. vlan_in_lem k (label_of n) (omega (arith, kind)) label low above) in
      let one : individual (mac_of n) ≡ true = sym (individual_test (mac_of n) (omega arith)) ∙ eq-eqb (group_bit (mac_of n)) 0 (sym e ∙ z) in
      rw (label, one) h
    where
      kind : kind_of n ≡ k / 2 ^ 29
      kind = omega arith

      label : label_of n ≡ k / 2 ^ 5 % 2 ^ 24
      label = omega arith

  -- neither: the nickname decides
  pub entry_nickname : first_front ≤ k → (g : ℕ) → g ≡ group_bit (mac_of n) → not (eqb g 0) || (leb high_front k && leb k last_vlan_front) ≡ false → (b : Bool) → b ≡ nickname_good (nickname_of n) → b ≡ entry_good (entry_of n)
  entry_nickname low g e f b h =
      let p = or_neither (not (eqb g 0)) (leb high_front k && leb k last_vlan_front) f in
      entry_rest low p.1 g e (eqb-true g 0 (not-false _ p.0)) b h

-- ---- learned and spoilt, by the state and the entry

-- a record of state 1 is learned where its entry is good
pub learned_good : (n : ℕ) → state_of n ≡ 1 → (g : Bool) → g ≡ entry_good (entry_of n) → is_learned (slot_of n) ≡ g
unfolding both
learned_good n e g h = learned_is n ∙ rw (e, ← h)

-- spoilt, by the state
module _ (n : ℕ) where
  pub spoilt_0 : state_of n ≡ 0 → (z : Bool) → z ≡ is_free (slot_of n) → not z ≡ is_spoilt (slot_of n)
  unfolding between both
  spoilt_0 e true h = rw (spoilt_is n, e, ← free_is n, ← h)
  spoilt_0 e false h = rw (spoilt_is n, e, ← free_is n, ← h)

  module _ (not-0 : state_of n ≡ 0 → ⊥) where
    some_bit : eqb n 0 ≡ false
    some_bit = ne_eqb n 0 (λ z. not-0 (omega arith))

    pub spoilt_bad : (state_of n ≡ 3 → ⊥) → state_of n < 4 → (g : Bool) → g ≡ entry_good (entry_of n) → not g ≡ is_spoilt (slot_of n)
    unfolding between both
    spoilt_bad not-3 few g h =
        rw (spoilt_is n, some_bit, le-leb 1 (state_of n) (omega arith), le-leb (state_of n) 2 (omega arith), ← h)

-- ---- learned, spoilt and free, by the front

module _ (n x : ℕ) (is : x ≡ n / 2 ^ 80) (small : x < 2 ^ 32) where
  -- a good record of this state is no VLAN 0
  in_range : (top : ℕ) → 1 ≤ state_of n → state_of n ≤ top → entry_good (entry_of n) ≡ true → (first_learned ≤ x) × (x < (top + 1) * 2 ^ 30)
  in_range top low high good = (go (dec_lt (n / 2 ^ 80 % 2 ^ 30) first_front), omega arith)
    where
      go : Dec (n / 2 ^ 80 % 2 ^ 30 < first_front) → first_learned ≤ x
      go (yes l) =
          let bad = entry_vlan_0 n (n / 2 ^ 80 % 2 ^ 30) refl l in
          let z : ◌≡◌ {A = ℕ} 0 1 = cc in
          absurd (omega arith)
      go (no l) = omega arith

  pub unlearned : leb first_learned x && leb x last_learned ≡ false → false ≡ is_learned (slot_of n)
  unlearned e = sym (not_true_false _ (λ h.
      let p = both_true _ _ (sym (learned_is n) ∙ h) in
      let state : state_of n ≡ 1 = eqb-true (state_of n) 1 p.0 in
      let r = in_range 1 (omega arith) (omega arith) p.1 in
      range_out first_learned last_learned x e r.0 (omega arith)))

  -- what is left of them without the state
  pub learned_without : leb first_learned x && leb x last_learned ≡ true → (2 ^ 30 ≤ x) × (x - 2 ^ 30 ≡ n / 2 ^ 80 % 2 ^ 30)
  learned_without e = let r = range_in first_learned last_learned x e in (omega arith, omega arith)

  pub learned : leb first_learned x && leb x last_learned ≡ true → (g : Bool) → g ≡ entry_good (entry_of n) → g ≡ is_learned (slot_of n)
  learned e g h = let r = range_in first_learned last_learned x e in sym (learned_good n (omega arith) g h)

  pub spoilt-entry : leb first_learned x && leb x last_configured ≡ true → (g : Bool) → g ≡ entry_good (entry_of n) → not g ≡ is_spoilt (slot_of n)
  spoilt-entry e g h =
      let r = range_in first_learned last_configured x e in
      spoilt_bad n (λ z. omega arith) (λ z. omega arith) (omega arith) g h

  pub spoilt_front : leb first_learned x && leb x last_configured ≡ false → (x ≡ 0 → ⊥) → true ≡ is_spoilt (slot_of n)
  unfolding both
  spoilt_front e some = rw (spoilt_is n, ne_eqb n 0 (λ z. some (omega arith)), unheld)
    where
      unheld : both (between learned_state configured_state (state_of n)) (entry_good (entry_of n)) ≡ false
      unheld = not_true_false _ (λ h.
          let p = both_true _ _ h in
          let state = between_is 1 2 (state_of n) p.0 in
          let r = in_range 2 state.0 state.1 p.1 in
          range_out first_learned last_configured x e r.0 (omega arith))

  pub free_front : (x ≡ 0 → ⊥) → false ≡ is_free (slot_of n)
  free_front some = sym (free_is n ∙ ne_eqb n 0 (λ z. some (omega arith)))

  pub free_zero : x ≡ 0 → (z : Bool) → z ≡ eqb (n % 2 ^ 80) 0 → z ≡ is_free (slot_of n)
  free_zero e z h = let low : n % 2 ^ 80 ≡ n = omega arith in h ∙ ap (λ (m : ℕ). eqb m 0) low ∙ sym (free_is n)

  pub spoilt_zero : x ≡ 0 → (z : Bool) → z ≡ eqb (n % 2 ^ 80) 0 → not z ≡ is_spoilt (slot_of n)
  spoilt_zero e z h = spoilt_0 n (omega arith) z (free_zero e z h)

-- of a record that is not spoilt the state decides whether it is free
pub state_free_lem : (n : ℕ) → is_spoilt (slot_of n) ≡ false → eqb (state_of n) 0 ≡ is_free (slot_of n)
state_free_lem n h = go (ℕ_discrete n 0)
  where
    held_state : (n ≡ 0 → ⊥) → state_of n ≡ 0 → ⊥
    held_state some s =
        let z = spoilt_0 n s false (sym (free_is n ∙ ne_eqb n 0 some)) in
        let q : ◌≡◌ {A = ℕ} 0 1 = cc in
        omega arith

    go : Dec (n ≡ 0) → eqb (state_of n) 0 ≡ is_free (slot_of n)
    go (yes z) = eq-eqb (state_of n) 0 (omega arith) ∙ sym (free_is n ∙ eq-eqb n 0 z)
    go (no z) = ne_eqb (state_of n) 0 (held_state z) ∙ sym (free_is n ∙ ne_eqb n 0 z)
