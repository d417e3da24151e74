-- Laws of the small model's flush call: refused, or cleared.
-- Assumes nothing.
use Prim.Native.Nat.{ℕ, ◌+◌, ◌-◌, ◌≤◌}
use mathlib.Core.Bool.{Bool, true, false, not, ◌&&◌, ◌||◌}
use mathlib.Core.List.{List}
use mathlib.Core.Path.{◌≡◌, sym, ap, ◌∙◌}
use native.Mathlib.Nat.{add-sub_cancel_left}
use native.Mathlib.Omega.{arith}
use lib.Dec.{eqb}
use lib.ListN.{length, take, drop}
use borrow.Author.Tests.{eqb-true, not-true}
use Rattle.numbers.specs.Result.{check, and_then, settled, Outcome}
use Rattle.numbers.specs.After.{OnTable, on_table}
use Rattle.numbers.proofs.Truth.{and_both, or_either, both_true, either_neither}
use Rattle.numbers.proofs.Lists.{rest_is}
use Rattle.table.specs.Slots.{most_slots, table_good, slots_of, count_slots}
use Rattle.flush.specs.Payload.{vlan_types, nick_bytes, pieces_of, made}
use Rattle.flush.specs.Flush.{slot_meant, cleared_by, clearing}
use Rattle.flush_payload.specs.Judging.{Noted, JudgedPayload}
use Rattle.flush_payload.specs.declared.Kinds.{Kinds}
use Rattle.flush_nicknames.specs.First.{fine_noted, FirstPass}
use Rattle.flush.specs.Meaning.{nickname_meant}
use Rattle.flush_marks.specs.Marks.{cleared_marks}
use Rattle.flush_marks.proofs.Clearing.{cleared_whole}
use Rattle.flush_marks.proofs.Filters.{chosen_same}
use Rattle.flush_call.specs.Clearing.{payload_from}
use Rattle.flush_call.proofs.Calls.{range_cleared, whole_within, flush_slots}
use Rattle.table.proofs.Slots.{count_few}
use Rattle.models.specs.Models.{flushed_by, flushed_vlan_only}
use Rattle.models_call.proofs.Marks.{first_exact, slot_none, none_cleared}
use Rattle.std.specs.Prelude.{Ok, Err}
use Rattle.numbers.specs.declared.refusals.Refusal.TheVariants.{TableLengthBad}
use Rattle.numbers.specs.declared.refusals.Refusal.{Refusal}

-- ---- the marked slots cleared

module _ (n : ℕ) (r : List ℕ) (f : Kinds) (noted : Noted vlan_types n (pieces_of n r) f) (nicks : List ℕ) (ingress : ℕ) (t m : List ℕ) where
  pub vlans_cleared : slots_of t ≤ most_slots → FirstPass (nickname_meant ingress nicks) (pieces_of n r) (fine_noted f) 0 (slots_of t) t m → (c : ℕ) (u : List ℕ) → on_table c u ≡ cleared_marks m t
      → on_table c u ≡ cleared_by (slot_meant vlan_types (payload_from nicks n r) ingress) t
  vlans_cleared few first c u e =
      range_cleared _ 0 (slots_of t) t m (whole_within t few) (chosen_same _ _ 0 (slots_of t) t m (first_exact n r f noted nicks ingress 0 (slots_of t) t m first) first.chosen) c u e
      ∙ cleared_whole (slot_meant vlan_types (payload_from nicks n r) ingress) t

-- no label is named
pub nothing_meant : (n : ℕ) (r : List ℕ) (f : Kinds) → Noted vlan_types n (pieces_of n r) f → (nicks : List ℕ) (ingress : ℕ) (t : List ℕ) → eqb n 0 && not (f.every || f.vlans) ≡ true
    → on_table 0 t ≡ cleared_by (slot_meant vlan_types (payload_from nicks n r) ingress) t
nothing_meant n r f noted nicks ingress t h =
    let a = both_true (eqb n 0) (not (f.every || f.vlans)) (sym (and_both _ _) ∙ h) in
    let b = either_neither f.every f.vlans (sym (or_either f.every f.vlans) ∙ not-true _ a.1) in
    none_cleared _ (slot_none n r f noted (eqb-true n 0 a.0) b.0 b.1 nicks ingress) t

pub small_refused : (ingress : ℕ) (l t : List ℕ) (g : Bool) → g ≡ table_good t → g ≡ false → on_table (Err TableLengthBad) t ≡ flushed_vlan_only ingress l t
unfolding flushed_by settled check
small_refused ingress l t g whole h = rw (← whole, h)

-- ---- the call

module _ (l : List ℕ) (j : Outcome Kinds) (judged : JudgedPayload vlan_types l j) where
  module _ (ingress : ℕ) (t : List ℕ) (g : Bool) (whole : g ≡ table_good t) where
    module _ (ok : g ≡ true) where
      pub small_corrupt : (r : Refusal) → j ≡ Err r → on_table (Err r) t ≡ flushed_vlan_only ingress l t
      unfolding flushed_by clearing settled check and_then
      small_corrupt r h = rw (← whole, ok, judged.bad r h)

      module _ (f : Kinds) (good : j ≡ Ok f) (k : ℕ) (e : k ≡ nick_bytes l) (c : ℕ) (u : List ℕ)
          (ran : on_table c u ≡ cleared_by (slot_meant vlan_types (payload_from (take (1 + k - 1) (drop 1 l)) f.blocks (take (length l - (2 + k)) (drop (2 + k) l))) ingress) t) where
        same : on_table c u ≡ cleared_by (slot_meant vlan_types (made l) ingress) t
        same = rw (add-sub_cancel_left 1 k, rest_is (2 + k) l, e, (judged.noted f good).blocks) at ran

        pub small_cleared : on_table (Ok c) u ≡ flushed_vlan_only ingress l t
        unfolding flushed_by clearing settled check and_then
        small_cleared = rw (← whole, ok, judged.good f good, ← same)

        pub small_fits : c ≤ most_slots
        unfolding cleared_by
        small_fits =
            let n : c ≡ count_slots (slot_meant vlan_types (made l) ingress) 0 (slots_of t) t = ap (λ (x : OnTable ℕ). x.answer) same in
            let few = count_few (slot_meant vlan_types (made l) ingress) t 0 (slots_of t) in
            omega (arith, flush_slots t g whole ok)
