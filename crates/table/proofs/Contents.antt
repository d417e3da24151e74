-- What a record holds, by its number: the laws by which code decides from some of the bits, and by which crates above speak of a slot
-- without its layout.
-- Assumes nothing.
use Prim.Native.Nat.{ℕ, ◌^◌, ◌<◌, ◌≤◌}
use mathlib.Core.Bool.{Bool, true, false, not, ◌&&◌, ◌||◌}
use mathlib.Core.List.{List}
use mathlib.Core.Path.{◌≡◌, refl, sym, ap, ◌∙◌}
use native.Mathlib.Decide.{ℕ_discrete, dec_lt}
use native.Mathlib.Omega.{arith}
use lib.Dec.{eqb}
use lib.ListN.{take}
use lib.Seq.{take-take, get_or-take}
use borrow.Author.Tests.{le-leb, ne_eqb, eqb-true}
use Rattle.numbers.specs.Tests.{pick, both, between}
use Rattle.numbers.specs.Ranges.{individual, group_bit, vlan_good, last_address, last_fine}
use Rattle.numbers.specs.Bytes.{num, bytes_of}
use Rattle.numbers.proofs.Truth.{and_both, not_true_false, both_true, both_left, both_right, pick_false, between_is, between_below, between_above}
use Rattle.table.specs.Record.{record_bytes, record_of, mark_of, multihomed_of, empty_of, with_mark, marked_slot, state_of, kind_of, label_of, mac_of, learned_state, configured_state, label_from, label_good, entry_of, entry_good, held, slot_of, unpacked, is_free, is_spoilt, is_learned, same_label, entry_matches, slot_matches}
use Rattle.table.specs.Slots.{slot_bytes, freed}
use Rattle.table.specs.Table.{holds, spoilt_slot}
use Rattle.table.specs.Learning.{free_slot}
use Rattle.table.specs.declared.Label.{Label}
use Rattle.table.specs.declared.Label.TheVariants.{Vlan, Fine}
use Rattle.table.specs.declared.Entry.{Entry}
use Rattle.table.specs.declared.Slot.{Slot}
use Rattle.table.specs.declared.Slot.TheVariants.{Free, Spoilt, Learned, Configured}
use Rattle.table.proofs.Slots.{Local}
use Rattle.table.proofs.Marks.{marked_learned, marked_free, marked_matches_lem, marked_entry}

-- ---- a slot's own bytes are enough

pub record_near : (x : List ℕ) → record_of (take slot_bytes x) ≡ record_of x
record_near x = ap num (take-take record_bytes slot_bytes x (omega arith))

pub mark_near : (x : List ℕ) → mark_of (take slot_bytes x) ≡ mark_of x
mark_near x = get_or-take slot_bytes x record_bytes 0 (omega arith)

pub unpacked_near : (x : List ℕ) → unpacked (take slot_bytes x) ≡ unpacked x
unfolding unpacked
unpacked_near x = rw (record_near x, mark_near x)

pub holds_near : (l : Label) (m : ℕ) → Local (holds l m)
unfolding holds
holds_near l m x = ap (slot_matches l m) (unpacked_near x)

pub free_near : Local free_slot
unfolding free_slot
free_near x = ap is_free (unpacked_near x)

pub spoilt_near : Local spoilt_slot
unfolding spoilt_slot
spoilt_near x = ap is_spoilt (unpacked_near x)

-- ---- free, spoilt, learned

module _ (e : Entry) where
  free_cases : (z g s : Bool) → is_free (pick z Free (pick g (pick s (Learned e) (Configured e)) Spoilt)) ≡ z
  unfolding pick
  free_cases true g s = refl
  free_cases false true true = refl
  free_cases false true false = refl
  free_cases false false s = refl

  spoilt_cases : (z g s : Bool) → is_spoilt (pick z Free (pick g (pick s (Learned e) (Configured e)) Spoilt)) ≡ both (not z) (not g)
  unfolding pick both
  spoilt_cases true g s = refl
  spoilt_cases false true true = refl
  spoilt_cases false true false = refl
  spoilt_cases false false s = refl

  -- z: the number is 0; r: the state is 1 or 2; s: the state is 1; g: the entry is good
  learned_cases : (z r s g : Bool) → (s ≡ true → (z ≡ false) × (r ≡ true)) → is_learned (pick z Free (pick (both r g) (pick s (Learned e) (Configured e)) Spoilt)) ≡ both s g
  unfolding pick both
  learned_cases true r true g h = let p = h refl in cc
  learned_cases true r false g h = refl
  learned_cases false true true true h = refl
  learned_cases false true true false h = refl
  learned_cases false true false true h = refl
  learned_cases false true false false h = refl
  learned_cases false false true g h = let p = h refl in cc
  learned_cases false false false g h = refl

pub free_is : (n : ℕ) → is_free (slot_of n) ≡ eqb n 0
unfolding slot_of held
free_is n = free_cases (entry_of n) (eqb n 0) _ _

pub spoilt_is : (n : ℕ) → is_spoilt (slot_of n) ≡ both (not (eqb n 0)) (not (both (between learned_state configured_state (state_of n)) (entry_good (entry_of n))))
unfolding slot_of held
spoilt_is n = spoilt_cases (entry_of n) (eqb n 0) _ _

state_decides : (n : ℕ) → eqb (state_of n) learned_state ≡ true → (eqb n 0 ≡ false) × (between learned_state configured_state (state_of n) ≡ true)
unfolding between both
state_decides n h =
    let e : state_of n ≡ 1 = eqb-true (state_of n) 1 h in
    (ne_eqb n 0 (λ z. omega arith), rw e)

pub learned_is : (n : ℕ) → is_learned (slot_of n) ≡ both (eqb (state_of n) learned_state) (entry_good (entry_of n))
unfolding slot_of held
learned_is n = learned_cases (entry_of n) (eqb n 0) _ (eqb (state_of n) learned_state) (entry_good (entry_of n)) (state_decides n)

-- the state of a free record, and of a learned one
pub free_state_lem : (n : ℕ) → is_free (slot_of n) ≡ true → state_of n ≡ 0
free_state_lem n h = let z = eqb-true n 0 (sym (free_is n) ∙ h) in omega arith

pub learned_state_lem : (n : ℕ) → is_learned (slot_of n) ≡ true → state_of n ≡ 1
learned_state_lem n h = eqb-true (state_of n) 1 (both_true _ _ (sym (learned_is n) ∙ h)).0

-- the same of a slot, the other way round
pub other_than_free : (r : List ℕ) → (state_of (record_of r) ≡ 0 → ⊥) → false ≡ free_slot r
unfolding free_slot unpacked
other_than_free r h =
    sym (not_true_false _ (λ e.
    h (free_state_lem (record_of r) (both_true _ _ (sym (marked_free (mark_of r) (slot_of (record_of r))) ∙ e)).0)))

pub other_than_learned : (r : List ℕ) → (state_of (record_of r) ≡ learned_state → ⊥) → false ≡ is_learned (unpacked r)
unfolding unpacked
other_than_learned r h =
    sym (not_true_false _ (λ e.
    h (learned_state_lem (record_of r) (both_true _ _ (sym (marked_learned (mark_of r) (slot_of (record_of r))) ∙ e)).0)))

-- ---- a record that is not free, by its state and its entry

-- the rest of `slot_of`
unfoldable pub held_or_spoilt : ℕ → Slot
held_or_spoilt n =
    pick (both (between learned_state configured_state (state_of n)) (entry_good (entry_of n)))
    (held (state_of n) (entry_of n))
    Spoilt

pub slot_free : (n : ℕ) → is_free (slot_of n) ≡ true → Free ≡ slot_of n
unfolding slot_of pick
slot_free n h = rw (sym (free_is n) ∙ h)

pub slot_held : (n : ℕ) → is_free (slot_of n) ≡ false → held_or_spoilt n ≡ slot_of n
unfolding slot_of held_or_spoilt pick
slot_held n h = rw (sym (free_is n) ∙ h)

module _ (n : ℕ) where
  pub entry_bad : entry_good (entry_of n) ≡ false → Spoilt ≡ held_or_spoilt n
  unfolding held_or_spoilt
  entry_bad h = sym (pick_false _ _ _ (both_right _ _ h))

  module _ (good : entry_good (entry_of n) ≡ true) where
    pub state_learned : state_of n ≡ 1 → Learned (entry_of n) ≡ held_or_spoilt n
    unfolding held_or_spoilt held between both pick
    state_learned e = rw (e, good)

    pub state_configured : state_of n ≡ 2 → Configured (entry_of n) ≡ held_or_spoilt n
    unfolding held_or_spoilt held between both pick
    state_configured e = rw (e, good)

    pub state_other : (state_of n ≡ 1 → ⊥) → (state_of n ≡ 2 → ⊥) → Spoilt ≡ held_or_spoilt n
    unfolding held_or_spoilt
    state_other a b = sym (pick_false _ _ _ (both_left _ _ (go (dec_lt (state_of n) 1))))
      where
        go : Dec (state_of n < 1) → between learned_state configured_state (state_of n) ≡ false
        go (yes l) = between_below 1 2 (state_of n) l
        go (no l) = between_above 1 2 (state_of n) (omega arith)

-- what a learned record holds: by its fields, and whole
pub slot_learned : (n : ℕ) → is_learned (slot_of n) ≡ true → slot_of n ≡ Learned (entry_of n)
slot_learned n h =
    let p = both_true _ _ (sym (learned_is n) ∙ h) in
    let some : is_free (slot_of n) ≡ false = not_true_false _ (λ z. let e = free_state_lem n z in let f = learned_state_lem n h in omega arith) in
    sym (slot_held n some) ∙ sym (state_learned n p.1 (learned_state_lem n h))

pub learned_parts : (r : List ℕ) → is_learned (unpacked r) ≡ true → (is_learned (slot_of (record_of r)) ≡ true) × (eqb (empty_of (mark_of r)) 0 ≡ true)
unfolding unpacked
learned_parts r h = both_true _ _ (sym (marked_learned (mark_of r) (slot_of (record_of r))) ∙ h)

pub learned_entry_lem : (r : List ℕ) → is_learned (unpacked r) ≡ true → unpacked r ≡ Learned (with_mark (eqb (multihomed_of (mark_of r)) 1) (entry_of (record_of r)))
unfolding unpacked
learned_entry_lem r h =
    let p = learned_parts r h in
    ap (marked_slot (mark_of r)) (slot_learned (record_of r) p.0) ∙ marked_entry (mark_of r) (entry_of (record_of r)) p.1

-- ---- a good entry, as code tests it

pub label_test_lem : (k x : ℕ) → k < 2 → x < 2 ^ 24 → (v : Bool) → v ≡ vlan_good x → eqb k 1 || v ≡ label_good (label_from k x)
unfolding label_from pick
label_test_lem k x hk hx v e = go (ℕ_discrete k 0)
  where
    go : Dec (k ≡ 0) → eqb k 1 || v ≡ label_good (pick (eqb k 0) (Vlan x) (Fine x))
    go (yes z) = rw (z, e)
    go (no z) = let o : k ≡ 1 = omega arith in rw o (sym (le-leb x last_fine (omega arith)))

pub individual_test : (m : ℕ) → m < 2 ^ 48 → eqb (group_bit m) 0 ≡ individual m
unfolding individual both
individual_test m h = rw (le-leb m last_address (omega arith))

-- ---- a label and an address

-- a record that holds them has these in its fields
pub record SameFields (k x m n : ℕ) : Type 0 where
  pub kind : k ≡ kind_of n
  pub label : x ≡ label_of n
  pub mac : m ≡ mac_of n

pub same_label_from : (k x j y : ℕ) → k ≤ 1 → j < 2 → eqb k j && eqb x y ≡ same_label (label_from k x) (label_from j y)
unfolding label_from pick
same_label_from k x j y hk hj = go (ℕ_discrete k 0) (ℕ_discrete j 0)
  where
    go : Dec (k ≡ 0) → Dec (j ≡ 0) → eqb k j && eqb x y ≡ same_label (pick (eqb k 0) (Vlan x) (Fine x)) (pick (eqb j 0) (Vlan y) (Fine y))
    go (yes p) (yes q) = rw (p, q)
    go (yes p) (no q) = let o : j ≡ 1 = omega arith in rw (p, o)
    go (no p) (yes q) = let o : k ≡ 1 = omega arith in rw (q, o)
    go (no p) (no q) =
        let o : k ≡ 1 = omega arith in
        let u : j ≡ 1 = omega arith in
        rw (o, u)

module _ (l : Label) (m : ℕ) (e : Entry) where
  matches_cases : (z r g s : Bool) → (r ≡ true → z ≡ false) → slot_matches l m (pick z Free (pick (both r g) (pick s (Learned e) (Configured e)) Spoilt)) ≡ both (both r g) (entry_matches l m e)
  unfolding pick both
  matches_cases true true g s h = let p = h refl in cc
  matches_cases true false g s h = refl
  matches_cases false true true true h = refl
  matches_cases false true true false h = refl
  matches_cases false true false s h = refl
  matches_cases false false g s h = refl

held_some : (n : ℕ) → between learned_state configured_state (state_of n) ≡ true → eqb n 0 ≡ false
held_some n h = let k = between_is 1 2 (state_of n) h in ne_eqb n 0 (λ z. omega arith)

pub matches_is : (l : Label) (m n : ℕ) → slot_matches l m (slot_of n) ≡ both (both (between learned_state configured_state (state_of n)) (entry_good (entry_of n))) (entry_matches l m (entry_of n))
unfolding slot_of held
matches_is l m n = matches_cases l m (entry_of n) (eqb n 0) (between learned_state configured_state (state_of n)) (entry_good (entry_of n)) _ (held_some n)

pub match_fields : (k x m n : ℕ) → k ≤ 1 → slot_matches (label_from k x) m (slot_of n) ≡ true → SameFields k x m n
unfolding entry_matches entry_of
match_fields k x m n hk h =
    let a = both_true _ _ (sym (matches_is (label_from k x) m n) ∙ h) in
    let b = both_true (same_label (label_from k x) (label_from (kind_of n) (label_of n))) (eqb m (mac_of n)) a.1 in
    let c : eqb k (kind_of n) && eqb x (label_of n) ≡ true = same_label_from k x (kind_of n) (label_of n) hk (omega arith) ∙ b.0 in
    let d = both_true (eqb k (kind_of n)) (eqb x (label_of n)) (sym (and_both _ _) ∙ c) in
    record {
      kind = eqb-true k (kind_of n) d.0;
      label = eqb-true x (label_of n) d.1;
      mac = eqb-true m (mac_of n) b.1;
    }

-- a record that holds them does so by its fields, and its 7 bits are 0
pub holds_parts : (l : Label) (m : ℕ) (r : List ℕ) → holds l m r ≡ true → (slot_matches l m (slot_of (record_of r)) ≡ true) × (eqb (empty_of (mark_of r)) 0 ≡ true)
unfolding holds unpacked
holds_parts l m r h = both_true _ _ (sym (marked_matches_lem (mark_of r) l m (slot_of (record_of r))) ∙ h)

pub holds_fields : (k x m : ℕ) (r : List ℕ) → k ≤ 1 → holds (label_from k x) m r ≡ true → SameFields k x m (record_of r)
holds_fields k x m r hk h = match_fields k x m (record_of r) hk (holds_parts (label_from k x) m r h).0

pub holds_fits : (k x m : ℕ) (r : List ℕ) → k ≤ 1 → holds (label_from k x) m r ≡ true → (x < 2 ^ 24) × (m < 2 ^ 48)
holds_fits k x m r hk h =
    let p = holds_fields k x m r hk h in
    let label = p.label in
    let mac = p.mac in
    omega arith

-- a slot that is freed holds none
pub unpacked-freed : unpacked freed ≡ Free
unfolding unpacked slot_of marked_slot num bytes_of pick
unpacked-freed = refl
