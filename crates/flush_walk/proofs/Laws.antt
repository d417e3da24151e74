-- Laws of clearing by a walk: the tests by their cases, and slot after slot.
-- Assumes nothing.
use Prim.Native.Nat.{ℕ, ◌+◌, ◌-◌, ◌*◌, ◌≤◌}
use mathlib.Core.Bool.{Bool, true, false, not, ◌&&◌, ◌||◌}
use mathlib.Core.List.{List, ◌++◌}
use mathlib.Core.Path.{◌≡◌, refl, sym, ap, ◌∙◌}
use native.Mathlib.Nat.{add-zero, add-sub_cancel_left}
use native.Mathlib.Numerals.{add-one}
use native.Mathlib.Omega.{arith}
use lib.Dec.{eqb}
use lib.ListN.{length, take, drop, take-append-drop}
use Rattle.numbers.specs.Tests.{pick, both, either}
use Rattle.numbers.specs.After.{on_table}
use Rattle.numbers.proofs.Truth.{and_both, or_either, both_left, both_right}
use Rattle.table.specs.Record.{record_of, kind_of, label_of, mac_of, nickname_of, vlan_kind, label_from, unpacked, is_learned}
use Rattle.table.specs.Slots.{slot_bytes, slot_at, freed, on_slots, count_slots}
use Rattle.table.proofs.Slots.{Local, length-on_slots, lent_on_slots, on_step}
use Rattle.table.proofs.Contents.{record_near, unpacked_near}
use Rattle.flush.specs.Payload.{every_type, Piece}
use Rattle.flush.specs.Meaning.{nickname_meant, label_meant, mac_meant}
use Rattle.flush.specs.Flush.{cleared_slot}
use Rattle.flush.proofs.Flushing.{cleared_hit, cleared_miss, cleared_keeps}
use Rattle.flush_payload.specs.declared.Kinds.{Kinds}
use Rattle.flush_marks.specs.Marks.{cleared_in, swept_in}
use Rattle.flush_walk.specs.Noted.{label_noted, mac_noted, slot_noted, WalkedTo}

-- ---- the tests

module _ (f : Kinds) (ps : List Piece) where
  asked : (kind : ℕ) (b : Bool) → not (eqb kind vlan_kind) && not (f.lists || f.maps) ≡ b → both (not (eqb kind vlan_kind)) (not (either f.lists f.maps)) ≡ b
  asked kind b h = ap (λ (x : Bool). both (not (eqb kind vlan_kind)) (not x)) (sym (or_either f.lists f.maps)) ∙ sym (and_both _ _) ∙ h

  pub label_every : (kind x : ℕ) → not (eqb kind vlan_kind) && not (f.lists || f.maps) ≡ true → f.every ≡ label_noted f ps kind x
  unfolding label_noted pick
  label_every kind x h = rw (asked kind true h)

  pub label_walked : (kind x : ℕ) → not (eqb kind vlan_kind) && not (f.lists || f.maps) ≡ false → label_meant every_type ps (label_from kind x) ≡ label_noted f ps kind x
  unfolding label_noted pick
  label_walked kind x h = rw (asked kind false h)

  pub mac_every : (m : ℕ) → f.macs ≡ false → true ≡ mac_noted f ps m
  unfolding mac_noted pick
  mac_every m h = rw h

  pub mac_walked : (m : ℕ) → f.macs ≡ true → mac_meant every_type ps m ≡ mac_noted f ps m
  unfolding mac_noted pick
  mac_walked m h = rw h

  module _ (nicks : List ℕ) (ingress : ℕ) (r : List ℕ) (b : Bool) (named : b ≡ nickname_meant ingress nicks (nickname_of (record_of r))) where
    pub not_named : b ≡ false → false ≡ slot_noted f nicks ps ingress r
    unfolding slot_noted
    not_named h = sym (both_right _ _ (both_left _ _ (sym named ∙ h)))

  module _ (nicks : List ℕ) (ingress : ℕ) (r : List ℕ) (a : Bool) (learned : a ≡ is_learned (unpacked r)) where
    pub not_learned : a ≡ false → false ≡ slot_noted f nicks ps ingress r
    unfolding slot_noted both
    not_learned h = rw (← learned, h)

    module _ (is : a ≡ true) (b : Bool) (named : b ≡ nickname_meant ingress nicks (nickname_of (record_of r))) where
      module _ (has : b ≡ true) (c : Bool) (labelled : c ≡ label_noted f ps (kind_of (record_of r)) (label_of (record_of r))) where
        pub not_labelled : c ≡ false → false ≡ slot_noted f nicks ps ingress r
        unfolding slot_noted both
        not_labelled h = rw (← learned, is, ← named, has, ← labelled, h)

        pub by_mac : c ≡ true → (d : Bool) → d ≡ mac_noted f ps (mac_of (record_of r)) → d ≡ slot_noted f nicks ps ingress r
        unfolding slot_noted both
        by_mac h d e = rw (← learned, is, ← named, has, ← labelled, h) e

  -- the test looks at the slot's own bytes only
  pub noted_near : (nicks : List ℕ) (ingress : ℕ) → Local (slot_noted f nicks ps ingress)
  unfolding slot_noted
  noted_near nicks ingress x = rw (unpacked_near x, record_near x)

-- ---- slot after slot, with slot k lent as `&mut t[a..e]`, a = slot_bytes * k, e = a + slot_bytes

whole : (n m : ℕ) (u : List ℕ) → take n u ++ (take m (drop n u) ++ drop m (drop n u)) ≡ u
whole n m u = ap (λ (y : List ℕ). take n u ++ y) (take-append-drop m (drop n u)) ∙ take-append-drop n u

module _ (test : List ℕ → Bool) (near : Local test) (from : ℕ) (t : List ℕ) where
  pub walked_none : WalkedTo test from t 0 0 t
  unfolding on_slots count_slots
  walked_none = record { long = refl; left = refl; count = refl; few = omega arith }

  module _ (i c : ℕ) (u : List ℕ) (so_far : WalkedTo test from t i c u) where
    pub walked_end : (count : ℕ) → i ≤ count → count ≤ i → on_table (record { cleared = c; examined = i }) u ≡ swept_in test from count t
    unfolding cleared_in swept_in
    walked_end count a b =
        let done : i ≡ count = omega arith in
        let n : c ≡ count_slots test from count t = so_far.count ∙ ap (λ (x : ℕ). count_slots test from x t) done in
        let left : u ≡ on_slots (cleared_slot test) from count t = so_far.left ∙ ap (λ (x : ℕ). on_slots (cleared_slot test) from x t) done in
        cc

    module _ (room : slot_bytes * (from + i) + slot_bytes ≤ length t) (b : Bool) (tested : b ≡ test (drop (slot_bytes * (from + i)) u)) where
      abbrev offset : ℕ
      offset = slot_bytes * (from + i)

      abbrev lent : List ℕ
      lent = take (offset + slot_bytes - offset) (drop offset u)

      same : lent ≡ slot_at (from + i) t
      same = lent_on_slots (cleared_slot test) (cleared_keeps test) t from i (from + i) refl room u so_far.left

      lent_tested : test lent ≡ b
      lent_tested = ap test (ap (λ (n : ℕ). take n (drop offset u)) (add-sub_cancel_left offset slot_bytes)) ∙ near (drop offset u) ∙ sym tested

      next : (r : List ℕ) (d : ℕ) → r ≡ cleared_slot test lent → d ≡ c + pick b 1 0 → d ≤ i + 1 → WalkedTo test from t (i + 1) d (take offset u ++ (r ++ drop (offset + slot_bytes - offset) (drop offset u)))
      unfolding count_slots
      next r d e n few =
          let step = on_step (cleared_slot test) (cleared_keeps test) t from i (from + i) refl room u so_far.left r e in
          let here : test (slot_at (from + i) t) ≡ b = sym (ap test same) ∙ lent_tested in
          record {
            long = ap length step ∙ length-on_slots (cleared_slot test) (cleared_keeps test) t from (i + 1) (omega arith);
            left = step;
            count = rw (add-one i, here, ← so_far.count) n;
            few = few;
          }

      pub walked_hit : b ≡ true → (r : List ℕ) → r ≡ freed → WalkedTo test from t (i + 1) (c + 1) (take offset u ++ (r ++ drop (offset + slot_bytes - offset) (drop offset u)))
      unfolding pick
      walked_hit h r free =
          let few = so_far.few in
          next r (c + 1) (free ∙ sym (cleared_hit test lent (lent_tested ∙ h))) (rw h) (omega arith)

      pub walked_miss : b ≡ false → WalkedTo test from t (i + 1) c u
      unfolding pick
      walked_miss h =
          let few = so_far.few in
          let step = next lent c (sym (cleared_miss test lent (lent_tested ∙ h))) (rw h (sym (add-zero c))) (omega arith) in
          rw (whole offset (offset + slot_bytes - offset) u) at step
