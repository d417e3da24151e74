-- Laws of keys: the key of a slot, and how often one stands in a list.
-- Assumes nothing.
use Prim.Native.Nat.{ℕ, ◌+◌, ◌-◌, ◌*◌, ◌/◌, ◌%◌, ◌^◌, ◌<◌, ◌≤◌}
use mathlib.Core.Bool.{Bool, true, false, not, ◌&&◌, ◌||◌}
use mathlib.Core.List.{List, [], ◌∷◌, ◌++◌}
use mathlib.Core.Path.{◌≡◌, refl, sym, ap, ◌∙◌}
use native.Mathlib.Decide.{ℕ_discrete}
use native.Mathlib.Omega.{arith}
use lib.Dec.{eqb, leb, ltb}
use lib.ListN.{length, take, drop, get_or}
use lib.Seq.{get_or-drop}
use borrow.Author.Tests.{eq-eqb, ne_eqb, eqb-false, ltb-true, ltb-false}
use Rattle.numbers.specs.Bytes.{AreBytes, num}
use Rattle.numbers.specs.Ranges.{group_bit, nickname_good}
use Rattle.numbers.specs.Tests.{pick, both, between}
use Rattle.numbers.proofs.Bytes.{num-one, num-add}
use Rattle.numbers.proofs.Truth.{between_in, between_below, between_above}
use Rattle.table.specs.Record.{record_bytes, record_of, state_of, mac_of, nickname_of, mark_of, learned_state, configured_state, entry_of, entry_good, held, slot_of, marked_slot, unpacked, is_free}
use Rattle.table.specs.Learning.{free_slot}
use Rattle.table.specs.Slots.{slot_bytes}
use Rattle.table.specs.declared.Slot.TheVariants.{Free, Spoilt, Learned, Configured}
use Rattle.table_fields.proofs.Laws.{part_of}
use Rattle.table_states.proofs.Laws.{entry_vlan_0, entry-either, entry_nickname}
use Rattle.report_keys.specs.Keys.{free_key, spoilt_key, key_of, times_in}

-- ---- the key of a slot

-- a slot that is free or spoilt by its fields
empty_key : (b : ℕ) (z : Bool) → pick (is_free (marked_slot b (pick z Free Spoilt))) free_key spoilt_key ≡ key_of (marked_slot b (pick z Free Spoilt))
unfolding marked_slot pick
empty_key b true = go (eqb b 0)
  where
    go : (y : Bool) → pick (is_free (pick y Free Spoilt)) free_key spoilt_key ≡ key_of (pick y Free Spoilt)
    go true = refl
    go false = refl
empty_key b false = refl

-- neither the state of a learned record nor that of a configured one; and one of them
no_state : (s : ℕ) → eqb s 0 || ltb configured_state s ≡ true → between learned_state configured_state s ≡ false
no_state s h = go (ℕ_discrete s 0)
  where
    go : Dec (s ≡ 0) → between learned_state configured_state s ≡ false
    go (yes e) = between_below learned_state configured_state s (omega arith)
    go (no e) =
        let above : ltb configured_state s ≡ true = rw (ne_eqb s 0 e) at h in
        let l = ltb-true configured_state s above in
        between_above learned_state configured_state s (omega arith)

pub a_state : (s : ℕ) → eqb s 0 || ltb configured_state s ≡ false → (s ≡ 0 → ⊥) × (s ≤ configured_state)
a_state s h = go (eqb s 0) (ltb configured_state s) refl refl h
  where
    go : (a b : Bool) → eqb s 0 ≡ a → ltb configured_state s ≡ b → a || b ≡ false → (s ≡ 0 → ⊥) × (s ≤ configured_state)
    go true b e f g = let z : ◌≡◌ {A = ℕ} 0 1 = cc in absurd (omega arith)
    go false true e f g = let z : ◌≡◌ {A = ℕ} 0 1 = cc in absurd (omega arith)
    go false false e f g = let l = ltb-false configured_state s f in (eqb-false s 0 e, omega arith)

module _ (r : List ℕ) where
  -- neither learned nor configured
  no_record : between learned_state configured_state (state_of (record_of r)) ≡ false → slot_of (record_of r) ≡ pick (eqb (record_of r) 0) Free Spoilt
  unfolding slot_of both pick
  no_record h = rw h

  pub key_empty : (s : ℕ) → s ≡ state_of (record_of r) → eqb s 0 || ltb configured_state s ≡ true → (f : Bool) → f ≡ free_slot r → (k : ℕ) → k ≡ pick f free_key spoilt_key → k ≡ key_of (unpacked r)
  unfolding free_slot unpacked
  key_empty s es h f ef k ek =
      let none = no_record (ap (between learned_state configured_state) (sym es) ∙ no_state s h) in
      ek ∙ rw (ef, none) (empty_key (mark_of r) (eqb (record_of r) 0))

  module _ (s : ℕ) (es : s ≡ state_of (record_of r)) (low : s ≡ 0 → ⊥) (high : s ≤ configured_state) where
    a_record : slot_of (record_of r) ≡ pick (entry_good (entry_of (record_of r))) (held s (entry_of (record_of r))) Spoilt
    unfolding slot_of both pick
    a_record =
        let some : eqb (record_of r) 0 ≡ false = ne_eqb (record_of r) 0 (λ z. low (omega arith)) in
        rw (some, es, between_in learned_state configured_state (state_of (record_of r)) (omega arith) (omega arith))

    pub key_bad : (g : Bool) → g ≡ entry_good (entry_of (record_of r)) → g ≡ false → spoilt_key ≡ key_of (unpacked r)
    unfolding unpacked marked_slot pick
    key_bad g eg h = rw (a_record, ← eg, h)

    pub key_marked : (b : ℕ) → b % 2 ^ 7 ≡ mark_of r % 2 ^ 7 → (b % 2 ^ 7 ≡ 0 → ⊥) → spoilt_key ≡ key_of (unpacked r)
    unfolding unpacked marked_slot pick held
    key_marked b eb some = rw a_record (go (entry_good (entry_of (record_of r))) (eqb s learned_state))
      where
        bad : eqb (mark_of r % 2 ^ 7) 0 ≡ false
        bad = ne_eqb (mark_of r % 2 ^ 7) 0 (λ z. some (eb ∙ z))

        go : (g z : Bool) → spoilt_key ≡ key_of (marked_slot (mark_of r) (pick g (pick z (Learned (entry_of (record_of r))) (Configured (entry_of (record_of r)))) Spoilt))
        go false z = refl
        go true true = rw bad
        go true false = rw bad

    pub key_record : (g : Bool) → g ≡ entry_good (entry_of (record_of r)) → g ≡ true → (b : ℕ) → b % 2 ^ 7 ≡ mark_of r % 2 ^ 7 → b % 2 ^ 7 ≡ 0 → (x : ℕ) → x ≡ nickname_of (record_of r) → x * 2 + (s - learned_state) ≡ key_of (unpacked r)
    unfolding unpacked marked_slot pick held entry_of
    key_record g eg h b eb none x ex = rw (a_record, ← eg, h) (go (ℕ_discrete s learned_state))
      where
        fine : eqb (mark_of r % 2 ^ 7) 0 ≡ true
        fine = eq-eqb (mark_of r % 2 ^ 7) 0 (sym eb ∙ none)

        go : Dec (s ≡ learned_state) → x * 2 + (s - learned_state) ≡ key_of (marked_slot (mark_of r) (pick (eqb s learned_state) (Learned (entry_of (record_of r))) (Configured (entry_of (record_of r)))))
        go (yes e) = rw (eq-eqb s learned_state e, fine, ← ex) (omega arith)
        go (no e) = rw (ne_eqb s learned_state e, fine, ← ex) (omega arith)

-- ---- the first bytes of a slot, and the last

pub state_in : (head n : ℕ) → n < 2 ^ 112 → head ≡ n / 2 ^ 48 → head / 2 ^ 62 ≡ state_of n
state_in head n small is = omega arith

pub mark_in : (tail n b : ℕ) → tail ≡ n % 2 ^ 56 * 2 ^ 8 + b → tail % 2 ^ 7 ≡ b % 2 ^ 7
mark_in tail n b is = omega arith

pub nickname_in : (tail n b : ℕ) → b < 2 ^ 8 → tail ≡ n % 2 ^ 56 * 2 ^ 8 + b → tail / 2 ^ 29 % 2 ^ 16 ≡ nickname_of n
nickname_in tail n b small is = omega arith

pub mark_small : (l : List ℕ) (at : ℕ) → AreBytes l → mark_of (drop at l) < 2 ^ 8
mark_small l at bytes = rw (get_or-drop at l record_bytes 0) (bytes (at + record_bytes))

module _ (l : List ℕ) (at : ℕ) (bytes : AreBytes l) (room : at + slot_bytes ≤ length l) where
  mark_byte : get_or l (at + record_bytes) 0 ≡ mark_of (drop at l)
  mark_byte = sym (get_or-drop at l record_bytes 0)

  pub tail_is : num (take 8 (drop (at + 7) l)) ≡ record_of (drop at l) % 2 ^ 56 * 2 ^ 8 + mark_of (drop at l)
  tail_is =
      let parts = num-add l (at + 7) 7 1 (omega arith) in
      let fields : num (take 7 (drop (at + 7) l)) ≡ record_of (drop at l) / 256 ^ 0 % 256 ^ 7 = part_of l at bytes 7 7 0 (omega arith) in
      let place : at + 7 + 7 ≡ at + record_bytes = omega arith in
      let last : num (take 1 (drop (at + 7 + 7) l)) ≡ mark_of (drop at l) = rw place (num-one l (at + record_bytes) (omega arith) ∙ mark_byte) in
      omega arith

-- ---- the entry, by the first eight bytes

module _ (n head x : ℕ) (small : n < 2 ^ 112) (is : head ≡ n / 2 ^ 48) (ex : x ≡ nickname_of n) where
  front_is : head / 2 ^ 32 % 2 ^ 30 ≡ n / 2 ^ 80 % 2 ^ 30
  front_is = omega arith

  group_is : head / 2 ^ 29 % 2 ≡ group_bit (mac_of n)
  group_is = omega arith

  pub fields_vlan_0 : head / 2 ^ 32 % 2 ^ 30 < 2 ^ 5 → false ≡ entry_good (entry_of n)
  fields_vlan_0 h = entry_vlan_0 n (head / 2 ^ 32 % 2 ^ 30) front_is h

  pub fields_above : leb (0xFFF * 2 ^ 5) (head / 2 ^ 32 % 2 ^ 30) && leb (head / 2 ^ 32 % 2 ^ 30) (2 ^ 29 - 1) ≡ true → false ≡ entry_good (entry_of n)
  fields_above h = entry-either n (head / 2 ^ 32 % 2 ^ 30) front_is (head / 2 ^ 29 % 2) group_is (go (not (eqb (head / 2 ^ 29 % 2) 0)) _ h)
    where
      go : (a b : Bool) → b ≡ true → a || b ≡ true
      go true b e = refl
      go false b e = e

  pub fields_group : (head / 2 ^ 29 % 2 ≡ 0 → ⊥) → false ≡ entry_good (entry_of n)
  fields_group h = entry-either n (head / 2 ^ 32 % 2 ^ 30) front_is (head / 2 ^ 29 % 2) group_is (rw (ne_eqb (head / 2 ^ 29 % 2) 0 h))

  pub fields_nickname : 2 ^ 5 ≤ head / 2 ^ 32 % 2 ^ 30 → leb (0xFFF * 2 ^ 5) (head / 2 ^ 32 % 2 ^ 30) && leb (head / 2 ^ 32 % 2 ^ 30) (2 ^ 29 - 1) ≡ false → head / 2 ^ 29 % 2 ≡ 0 → (b : Bool) → b ≡ nickname_good x → b ≡ entry_good (entry_of n)
  fields_nickname low above none b e = entry_nickname n (head / 2 ^ 32 % 2 ^ 30) front_is low (head / 2 ^ 29 % 2) group_is (rw (eq-eqb (head / 2 ^ 29 % 2) 0 none) above) b (e ∙ ap nickname_good ex)

-- ---- counting

pub pick-one : (b : Bool) → pick b 1 0 ≤ 1
unfolding pick
pick-one true = omega arith
pick-one false = omega arith

pub times_append : (k : ℕ) (a b : List ℕ) → times_in k (a ++ b) ≡ times_in k a + times_in k b
unfolding times_in
times_append k [] b = omega arith
times_append k (x ∷ a) b = let r = times_append k a b in omega arith

pub times_last : (k v : ℕ) → times_in k (v ∷ []) ≡ pick (eqb v k) 1 0
unfolding times_in
times_last k v = omega arith

pub times_few : (k : ℕ) (l : List ℕ) → times_in k l ≤ length l
unfolding times_in
times_few k [] = omega arith
times_few k (x ∷ l) = let r = times_few k l in let p = pick-one (eqb x k) in omega arith
