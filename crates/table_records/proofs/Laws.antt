-- Laws of a record's number in its two parts: each field, and what the record holds.
-- Assumes nothing.
use Prim.Native.Nat.{ℕ, ◌+◌, ◌*◌, ◌/◌, ◌%◌, ◌^◌, ◌≤◌}
use mathlib.Core.Bool.{Bool, true, false, ◌&&◌, ◌||◌}
use mathlib.Core.List.{List, [], ◌∷◌, ◌++◌}
use mathlib.Core.Path.{◌≡◌, refl, sym, ap, ◌∙◌}
use native.Mathlib.Omega.{arith}
use lib.Dec.{eqb}
use lib.ListN.{length, drop, set, length-append, length-drop, drop_of_length-le}
use lib.Seq.{take_at, set_split}
use borrow.Author.Tests.{eq-eqb, ne_eqb}
use Rattle.numbers.specs.Tests.{pick, both, between}
use Rattle.numbers.specs.Ranges.{group_bit, nickname_good, vlan_good, last_vlan}
use Rattle.numbers.proofs.Truth.{and_both, both_true, between_is}
use Rattle.table.specs.Record.{record_bytes, record_of, state_of, kind_of, label_of, mac_of, nickname_of, confidence_of, seconds_of, learned_state, configured_state, label_from, label_good, entry_of, entry_good, held, slot_of, is_free, slot_matches}
use Rattle.table.specs.Slots.{slot_bytes}
use Rattle.table.specs.Table.{holds}
use Rattle.table.specs.declared.Label.{Label}
use Rattle.table.specs.declared.Label.TheVariants.{Vlan, Fine}
use Rattle.table.specs.declared.Entry.{Entry}
use Rattle.table.specs.declared.Slot.TheVariants.{Free, Spoilt, Learned, Configured}
use Rattle.table.proofs.Contents.{free_is, label_test_lem, individual_test, holds_parts}
use Rattle.table_fields.proofs.Laws.{zero_parts}
use Rattle.table_records.specs.RecordBits.{number_of, BitsFit, HasNumber}
use Rattle.table_records.specs.Entries.{IsHeld}
use Rattle.table_records.specs.declared.RecordBits.{RecordBits}

three_tests : {a b c x y z : Bool} → a ≡ x → b ≡ y → c ≡ z → a && (b && c) ≡ both x (both y z)
three_tests {a} {b} {c} p q r = rw (← p, ← q, ← r, and_both b c) (and_both a (both b c))

vlan_from : (k x y : ℕ) → k ≡ 0 → y ≡ x → Vlan y ≡ label_from k x
unfolding label_from pick
vlan_from k x y e f = rw (e, f)

fine_from : (k x y : ℕ) → (k ≡ 0 → ⊥) → y ≡ x → Fine y ≡ label_from k x
unfolding label_from pick
fine_from k x y e f = rw (ne_eqb k 0 e, f)

vlan_small : (k x : ℕ) → k ≡ 0 → label_good (label_from k x) ≡ true → x ≤ last_vlan
unfolding label_from pick vlan_good
vlan_small k x e h = (between_is 1 last_vlan x (rw e at h)).1

module _ (b : RecordBits) where
  pub free_bits : eqb b.high 0 && eqb b.low 0 ≡ is_free (slot_of (number_of b))
  free_bits =
      zero_parts (number_of b) b.high b.low (λ p q. omega arith) (λ z. (omega arith, omega arith)) _ _ refl refl
      ∙ sym (free_is (number_of b))

  module _ (s : BitsFit b) where
    pub good_bits : (v y : Bool) → v ≡ vlan_good (b.high / 2 ^ 37 % 2 ^ 24) → y ≡ nickname_good (b.low / 2 ^ 21 % 2 ^ 16) → (eqb (b.high / 2 ^ 61 % 2) 1 || v) && (eqb (b.high / 2 ^ 29 % 2) 0 && y) ≡ entry_good (entry_of (number_of b))
    unfolding entry_good entry_of
    good_bits v y vlan good =
        let n : ℕ = number_of b in
        let high = s.high_fits in
        let low = s.low_fits in
        let kind : b.high / 2 ^ 61 % 2 ≡ kind_of n = omega arith in
        let label : b.high / 2 ^ 37 % 2 ^ 24 ≡ label_of n = omega arith in
        let group : b.high / 2 ^ 29 % 2 ≡ group_bit (mac_of n) = omega arith in
        let nickname : b.low / 2 ^ 21 % 2 ^ 16 ≡ nickname_of n = omega arith in
        three_tests
        (ap (λ (k : ℕ). eqb k 1 || v) kind ∙ label_test_lem (kind_of n) (label_of n) (omega arith) (omega arith) v (vlan ∙ ap vlan_good label))
        (ap (λ (g : ℕ). eqb g 0) group ∙ individual_test (mac_of n) (omega arith))
        (good ∙ ap nickname_good nickname)

    -- the label of a good record, which fits where it is a VLAN
    module _ (good : entry_good (entry_of (number_of b)) ≡ true) where
      pub vlan_fits : b.high / 2 ^ 61 % 2 ≡ 0 → b.high / 2 ^ 37 % 2 ^ 24 ≤ last_vlan
      unfolding entry_good entry_of
      vlan_fits e =
          let n : ℕ = number_of b in
          let high = s.high_fits in
          let low = s.low_fits in
          let k = vlan_small (kind_of n) (label_of n) (omega arith) (both_true (label_good (label_from (kind_of n) (label_of n))) _ good).0 in
          omega arith

      pub label_vlan : b.high / 2 ^ 61 % 2 ≡ 0 → Vlan (b.high / 2 ^ 37 % 2 ^ 24) ≡ (entry_of (number_of b)).label
      unfolding entry_of
      label_vlan e =
          let high = s.high_fits in
          let low = s.low_fits in
          vlan_from (kind_of (number_of b)) (label_of (number_of b)) (b.high / 2 ^ 37 % 2 ^ 24) (omega arith) (omega arith)

      pub label_fine : (b.high / 2 ^ 61 % 2 ≡ 0 → ⊥) → Fine (b.high / 2 ^ 37 % 2 ^ 24) ≡ (entry_of (number_of b)).label
      unfolding entry_of
      label_fine e =
          let high = s.high_fits in
          let low = s.low_fits in
          fine_from (kind_of (number_of b)) (label_of (number_of b)) (b.high / 2 ^ 37 % 2 ^ 24) (λ z. e (omega arith)) (omega arith)

    pub entry_bits : (l : Label) → l ≡ (entry_of (number_of b)).label → record {
      label = l;
      mac = b.high % 2 ^ 37 * 2 ^ 11 + b.low / 2 ^ 37;
      nickname = b.low / 2 ^ 21 % 2 ^ 16;
      confidence = b.low / 2 ^ 13 % 2 ^ 8;
      seconds = b.low % 2 ^ 13;
      multihomed = false;
    } ≡ entry_of (number_of b)
    unfolding entry_of
    entry_bits l e =
        let n : ℕ = number_of b in
        let high = s.high_fits in
        let low = s.low_fits in
        let mac : b.high % 2 ^ 37 * 2 ^ 11 + b.low / 2 ^ 37 ≡ mac_of n = omega arith in
        let nickname : b.low / 2 ^ 21 % 2 ^ 16 ≡ nickname_of n = omega arith in
        let confidence : b.low / 2 ^ 13 % 2 ^ 8 ≡ confidence_of n = omega arith in
        let seconds : b.low % 2 ^ 13 ≡ seconds_of n = omega arith in
        λ i. record { label = e i; mac = mac i; nickname = nickname i; confidence = confidence i; seconds = seconds i; multihomed = false }

-- a number from its fields, in two parts
pub join_whole : (k l m n c t : ℕ) → 1 * 2 ^ 110 + k * 2 ^ 109 + l * 2 ^ 85 + m * 2 ^ 37 + n * 2 ^ 21 + c * 2 ^ 13 + t ≡ (((2 + k) * 2 ^ 24 + l) * 2 ^ 37 + m / 2 ^ 11) * 2 ^ 48 + (((m % 2 ^ 11 * 2 ^ 16 + n) * 2 ^ 8 + c) * 2 ^ 13 + t)
join_whole k l m n c t = omega arith

-- ---- a record that is held

-- z: the number is 0; g: the state is 1 or 2 and the entry is good
match_cases : (l : Label) (m s : ℕ) (x : Entry) (z g : Bool) → slot_matches l m (pick z Free (pick g (held s x) Spoilt)) ≡ true → (g ≡ true) × (pick z Free (pick g (held s x) Spoilt) ≡ held s x)
unfolding pick
match_cases l m s x true g h = let n : ◌≡◌ {A = Bool} false true = h in (cc, cc)
match_cases l m s x false false h = let n : ◌≡◌ {A = Bool} false true = h in (cc, cc)
match_cases l m s x false true h = (refl, refl)

-- a record that holds a label and an address is learned or configured
pub match_held : (l : Label) (m : ℕ) (r : List ℕ) → holds l m r ≡ true → IsHeld (record_of r)
unfolding slot_of
match_held l m r h =
    let n : ℕ = record_of r in
    let state : Bool = between learned_state configured_state (state_of n) in
    let cases = match_cases l m (state_of n) (entry_of n) (eqb n 0) (both state (entry_good (entry_of n))) (holds_parts l m r h).0 in
    record { good = (both_true state (entry_good (entry_of n)) cases.0).1; slot = cases.1 }

module _ (n : ℕ) (i : IsHeld n) (b : RecordBits) (eb : HasNumber n b) where
  pub held_good : entry_good (entry_of (number_of b)) ≡ true
  held_good = rw (← eb.number) i.good

  module _ (s : ℕ) (es : s ≡ state_of (number_of b)) (x : Entry) (ex : x ≡ entry_of (number_of b)) where
    pub held_learned : s ≡ 1 → Learned x ≡ slot_of n
    unfolding held pick
    held_learned p = rw (i.slot, eb.number, ← es, eq-eqb s 1 p, ex)

    pub held-configured : (s ≡ 1 → ⊥) → Configured x ≡ slot_of n
    unfolding held pick
    held-configured p = rw (i.slot, eb.number, ← es, ne_eqb s 1 p, ex)

-- the fields written to a slot, and then the mark
pub put_marked : (slot w : List ℕ) (m : ℕ) → length slot ≡ slot_bytes → length w ≡ record_bytes → set (w ++ drop record_bytes slot) record_bytes m ≡ w ++ m ∷ []
put_marked slot w m long front =
    let all : length (w ++ drop record_bytes slot) ≡ slot_bytes = simp (length-append, length-drop) (omega arith) in
    set_split (w ++ drop record_bytes slot) record_bytes m (omega arith)
    ∙ rw (take_at w (drop record_bytes slot) record_bytes front, drop_of_length-le (w ++ drop record_bytes slot) {i = slot_bytes} (omega arith))
