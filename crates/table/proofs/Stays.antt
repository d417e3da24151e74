-- A record that is neither free nor learned keeps its bytes: ageing changes learned records only, and learning writes to a slot that is
-- learned or free.
-- Assumes nothing.
use Prim.Native.Nat.{ℕ, ◌<◌}
use native.Mathlib.Omega.{arith}
use native.Mathlib.Decide.{ℕ_discrete}
use mathlib.Core.Bool.{Bool, true, false}
use mathlib.Core.List.{List}
use mathlib.Core.Path.{◌≡◌, refl, subst, ◌∙◌}
use lib.Dec.{ltb}
use lib.ListN.{length}
use Rattle.numbers.specs.Tests.{pick}
use Rattle.numbers.specs.After.{on_table}
use Rattle.table.specs.Record.{record_of, confidence_of, learned_state, unpacked, packed, is_free, is_learned, entry_matches, learned_that}
use Rattle.table.specs.Slots.{table_good, slots_of, slot_at, on_slots, or_else, found, lowest}
use Rattle.table.specs.Table.{holds, holds_configured, holds_learned, holds_unmarked, holds_marked, aged_slot, aged}
use Rattle.table.specs.Learning.{rival_of, put_entry, cleared_pair, room_for, judged_at, free_slot, into_free, judged, learnt}
use Rattle.table.specs.Claims.{Stays, IsSpoilt, IsConfigured, LearningLeavesAlone, AgeingLeavesAlone}
use Rattle.table.specs.declared.Entry.{Entry}
use Rattle.table.specs.declared.Slot.{Slot}
use Rattle.table.specs.declared.Slot.TheVariants.{Free, Spoilt, Learned, Configured}
use Rattle.table.specs.declared.Learning.TheVariants as learning
use Rattle.table.proofs.Slots.{slot_put_other, length_all_slots, slot_all_slots, lowest-within, lowest_hit, lowest_miss}
use Rattle.table.proofs.Packing.{packed-length}
use Rattle.table.proofs.Apart.{pair_learned, cleared_keeps}
use Rattle.table.proofs.Ageing.{aged_keeps, checked}
use Rattle.std.specs.Prelude.{Option, Some, None}

-- a kind of record that is neither free nor learned
module _ (Such : Slot → Type 0) (not-Free : Such Free → ⊥) (not_learned : (e : Entry) → Such (Learned e) → ⊥) where
  pub such_unlearned : (x : Slot) → Such x → is_learned x ≡ false
  such_unlearned Free h = absurd (not-Free h)
  such_unlearned Spoilt h = refl
  such_unlearned (Learned e) h = absurd (not_learned e h)
  such_unlearned (Configured e) h = refl

  such_taken : (x : Slot) → is_free x ≡ true → Such x → ⊥
  such_taken Free f h = not-Free h
  such_taken Spoilt f h = let z : ◌≡◌ {A = ℕ} 0 1 = cc in omega arith
  such_taken (Learned e) f h = not_learned e h
  such_taken (Configured e) f h = let z : ◌≡◌ {A = ℕ} 0 1 = cc in omega arith

  stays_same : (t : List ℕ) → Stays Such t t
  stays_same t k h p = refl

  -- ---- ageing

  aged_same : (s : ℕ) (r : List ℕ) → Such (unpacked r) → aged_slot s r ≡ r
  unfolding aged_slot pick
  aged_same s r p = rw (such_unlearned (unpacked r) p)

  ageing_stays : (s : ℕ) (t : List ℕ) → Stays Such t (aged s t).table
  unfolding aged
  ageing_stays s t =
      checked (Stays Such t) (table_good t) _ t _ (stays_same t)
      (λ k h p. slot_all_slots (aged_slot s) (aged_keeps s) t k h ∙ aged_same s (slot_at k t) p)

  -- ---- learning

  such_passed : (p : Entry → Bool) (x : Slot) → Such x → learned_that p x ≡ false
  such_passed p Free h = refl
  such_passed p Spoilt h = refl
  such_passed p (Learned e) h = absurd (not_learned e h)
  such_passed p (Configured e) h = refl

  such_other : (p : Entry → Bool) (x : Slot) → learned_that p x ≡ true → Such x → ⊥
  such_other p x q h = let n = such_passed p x h in let z : ◌≡◌ {A = ℕ} 0 1 = cc in omega arith

  module _ (e : Entry) (t : List ℕ) where
    -- the slot that a frame is judged against is learned
    module _ (none : (j : ℕ) → j < slots_of t → holds_configured e.label e.mac (slot_at j t) ≡ false) where
      marked_other : (u v : Option ℕ) (j : ℕ) → lowest (holds_unmarked e.label e.mac) t ≡ u → lowest (holds_marked e.label e.mac e.nickname) t ≡ v → or_else u v ≡ Some j → (j < slots_of t) × (Such (unpacked (slot_at j t)) → ⊥)
      unfolding holds_unmarked holds_marked
      marked_other (Some k) v j p q h =
          let at : lowest (holds_unmarked e.label e.mac) t ≡ Some j = p ∙ h in
          (lowest-within _ t j at, such_other _ (unpacked (slot_at j t)) (lowest_hit (holds_unmarked e.label e.mac) t j at))
      marked_other None v j p q h =
          let at : lowest (holds_marked e.label e.mac e.nickname) t ≡ Some j = q ∙ h in
          (lowest-within _ t j at, such_other _ (unpacked (slot_at j t)) (lowest_hit (holds_marked e.label e.mac e.nickname) t j at))

      pair_other : (j : ℕ) → lowest (holds e.label e.mac) t ≡ Some j → (j < slots_of t) × (Such (unpacked (slot_at j t)) → ⊥)
      unfolding holds holds_configured
      pair_other j q =
          let within = lowest-within (holds e.label e.mac) t j q in
          (within, such_other _ (unpacked (slot_at j t)) (pair_learned e.label e.mac (unpacked (slot_at j t)) (lowest_hit (holds e.label e.mac) t j q) (none j within)))

      rival_other : (j : ℕ) → rival_of e t ≡ Some j → (j < slots_of t) × (Such (unpacked (slot_at j t)) → ⊥)
      unfolding rival_of pick
      rival_other j = go e.multihomed
        where
          go : (b : Bool) → pick b (or_else (lowest (holds_unmarked e.label e.mac) t) (lowest (holds_marked e.label e.mac e.nickname) t)) (lowest (holds e.label e.mac) t) ≡ Some j → (j < slots_of t) × (Such (unpacked (slot_at j t)) → ⊥)
          go true q = marked_other _ _ j refl refl q
          go false q = pair_other j q

    cleared_such : (r : List ℕ) → Such (unpacked r) → cleared_pair e r ≡ r
    unfolding cleared_pair holds_learned pick
    cleared_such r p = rw (such_passed (entry_matches e.label e.mac) (unpacked r) p)

    -- the table as the frame's mark leaves it, then the entry
    room_stays : (length (room_for e t) ≡ length t) × Stays Such t (room_for e t)
    unfolding room_for pick
    room_stays = go e.multihomed
      where
        go : (b : Bool) → (length (pick b t (on_slots (cleared_pair e) 0 (slots_of t) t)) ≡ length t) × Stays Such t (pick b t (on_slots (cleared_pair e) 0 (slots_of t) t))
        go true = (refl, stays_same t)
        go false = (
          length_all_slots (cleared_pair e) (cleared_keeps e) t,
          λ k h p. slot_all_slots (cleared_pair e) (cleared_keeps e) t k h ∙ cleared_such (slot_at k t) p,
        )

    put_stays : (u : List ℕ) → length u ≡ length t → Stays Such t u → (j : ℕ) → j < slots_of t → (Such (unpacked (slot_at j t)) → ⊥) → Stays Such t (put_entry j e u)
    put_stays u long stays j within none k h p = go (ℕ_discrete k j)
      where
        go : Dec (k ≡ j) → slot_at k (put_entry j e u) ≡ slot_at k t
        go (yes same) = absurd (none (subst (λ (i : ℕ). Such (unpacked (slot_at i t))) same p))
        go (no other) = slot_put_other k j (packed learned_state e) u other (omega arith) (packed-length learned_state e) ∙ stays k h p

    judged-stays : (j : ℕ) → j < slots_of t → (Such (unpacked (slot_at j t)) → ⊥) → Stays Such t (judged_at j e t).table
    unfolding judged_at pick
    judged-stays j within none = weighed (ltb e.confidence (confidence_of (record_of (slot_at j t))))
      where
        weighed : (b : Bool) → Stays Such t (pick b (on_table learning.Kept t) (on_table learning.Refreshed (put_entry j e (room_for e t)))).table
        weighed true = stays_same t
        weighed false = put_stays (room_for e t) room_stays.0 room_stays.1 j within none

    free_stays : (p : Option ℕ) → lowest free_slot t ≡ p → Stays Such t (into_free p e t).table
    unfolding into_free free_slot
    free_stays (Some j) q = put_stays t refl (stays_same t) j (lowest-within free_slot t j q) (such_taken (unpacked (slot_at j t)) (lowest_hit free_slot t j q))
    free_stays None q = stays_same t

    at_stays : ((j : ℕ) → j < slots_of t → holds_configured e.label e.mac (slot_at j t) ≡ false) → (p : Option ℕ) → rival_of e t ≡ p → Stays Such t (judged p e t).table
    unfolding judged
    at_stays none (Some j) q = let o = rival_other none j q in judged-stays j o.0 o.1
    at_stays none None q = free_stays (lowest free_slot t) refl

    unless_stays : (p : Option ℕ) → lowest (holds_configured e.label e.mac) t ≡ p → Stays Such t (pick (found p) (on_table learning.Kept t) (judged (rival_of e t) e t)).table
    unfolding pick
    unless_stays (Some j) q = stays_same t
    unless_stays None q = at_stays (lowest_miss (holds_configured e.label e.mac) t q) (rival_of e t) refl

    learning_stays : Stays Such t (learnt e t).table
    unfolding learnt
    learning_stays = unless_stays (lowest (holds_configured e.label e.mac) t) refl

-- ---- the two kinds

pub spoilt_free : IsSpoilt Free → ⊥
spoilt_free h = let z : ◌≡◌ {A = ℕ} 0 1 = cc in omega arith

pub spoilt_learned : (e : Entry) → IsSpoilt (Learned e) → ⊥
spoilt_learned e h = let z : ◌≡◌ {A = ℕ} 0 1 = cc in omega arith

pub configured_free : IsConfigured Free → ⊥
configured_free h = let e = h.1 in let z : ◌≡◌ {A = ℕ} 0 1 = cc in omega arith

pub configured_learned : (e : Entry) → IsConfigured (Learned e) → ⊥
configured_learned e h = let e = h.1 in let z : ◌≡◌ {A = ℕ} 0 1 = cc in omega arith

pub ageing_leaves_alone : AgeingLeavesAlone
ageing_leaves_alone s t = record {
  spoilt = ageing_stays IsSpoilt spoilt_free spoilt_learned s t;
  configured = ageing_stays IsConfigured configured_free configured_learned s t;
}

pub learning_leaves_alone : LearningLeavesAlone
learning_leaves_alone e t = record {
  spoilt = learning_stays IsSpoilt spoilt_free spoilt_learned e t;
  configured = learning_stays IsConfigured configured_free configured_learned e t;
}
