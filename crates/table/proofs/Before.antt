-- Where no pair stands twice, an unmarked frame is learned as document 01 says.
-- Assumes nothing.
use Prim.Native.Nat.{ℕ, ◌<◌}
use mathlib.Core.Bool.{Bool, true, false}
use mathlib.Core.List.{List}
use mathlib.Core.Path.{◌≡◌, refl, ap}
use native.Mathlib.Omega.{arith}
use lib.Dec.{ltb}
use Rattle.numbers.specs.Tests.{pick}
use Rattle.numbers.specs.After.{on_table}
use Rattle.table.specs.Record.{learned_state, packed, record_of, mark_of, confidence_of, entry_of, held, slot_of, unpacked, entry_matches, configured_that, slot_that}
use Rattle.table.specs.Slots.{slots_of, slot_at, found, lowest}
use Rattle.table.specs.Table.{holds, holds_configured}
use Rattle.table.specs.Learning.{rival_of, put_entry, judged_at, free_slot, into_free, judged, learnt}
use Rattle.table.specs.Before.{over_match, learnt_before_at, learnt_before}
use Rattle.table.specs.Claims.{Sound, Unique, UnmarkedAsBefore}
use Rattle.table.specs.declared.Entry.{Entry}
use Rattle.table.specs.declared.Slot.{Slot}
use Rattle.table.specs.declared.Slot.TheVariants.{Free, Spoilt, Learned, Configured}
use Rattle.table.specs.declared.Learning.TheVariants as learning
use Rattle.table.proofs.Slots.{lowest-within, lowest_hit, lowest_miss}
use Rattle.table.proofs.Packing.{packed-length, learned_back}
use Rattle.table.proofs.Apart.{OnlyAt, alone_put, packed_pair}
use Rattle.table.proofs.Once.{room_once}
use Rattle.std.specs.Prelude.{Option, Some, None}

-- no slot of the table passes: none is found; some slot passes: one is found
module _ (p : List ℕ → Bool) (t : List ℕ) where
  found_none : (q : Option ℕ) → lowest p t ≡ q → ((j : ℕ) → j < slots_of t → p (slot_at j t) ≡ true → ⊥) → found q ≡ false
  found_none (Some k) e none = absurd (none k (lowest-within p t k e) (lowest_hit p t k e))
  found_none None e none = refl

  found_some : (q : Option ℕ) → lowest p t ≡ q → (j : ℕ) → j < slots_of t → p (slot_at j t) ≡ true → found q ≡ true
  found_some (Some k) e j b h = refl
  found_some None e j b h = let miss = lowest_miss p t e j b in cc

-- the confidence that is judged is the entry's
learned_confidence : (r : List ℕ) (e : Entry) → unpacked r ≡ Learned e → confidence_of (record_of r) ≡ e.confidence
unfolding unpacked slot_of held entry_of
learned_confidence r e h =
    let b = learned_back (entry_of (record_of r)) e (mark_of r) _ _ _ h in
    ap (λ (x : Entry). x.confidence) b.1.1

module _ (e : Entry) (mark : e.multihomed ≡ false) (t : List ℕ) (unique : Unique t) where
  abbrev pair : List ℕ → Bool
  pair = holds e.label e.mac

  abbrev configured : List ℕ → Bool
  configured = holds_configured e.label e.mac

  slot-configured : (s : Slot) → configured_that (entry_matches e.label e.mac) s ≡ true → slot_that (entry_matches e.label e.mac) s ≡ true
  slot-configured Free h = h
  slot-configured Spoilt h = h
  slot-configured (Learned o) h = cc
  slot-configured (Configured o) h = h

  configured_pair : (r : List ℕ) → configured r ≡ true → pair r ≡ true
  unfolding holds holds_configured
  configured_pair r h = slot-configured (unpacked r) h

  rival_is : rival_of e t ≡ lowest pair t
  unfolding rival_of pick
  rival_is = rw mark

  -- the pair's one record, in slot k
  module _ (k : ℕ) (at : lowest pair t ≡ Some k) where
    within : k < slots_of t
    within = lowest-within pair t k at

    hit : pair (slot_at k t) ≡ true
    hit = lowest_hit pair t k at

    only : (j : ℕ) → j < slots_of t → pair (slot_at j t) ≡ true → j ≡ k
    only j b h = unique e.label e.mac j k b within h hit

    over_learned : (o : Entry) → unpacked (slot_at k t) ≡ Learned o → judged_at k e t ≡ over_match (Learned o) k e t
    unfolding judged_at over_match
    over_learned o q = rw (learned_confidence (slot_at k t) o q, room_once e t k within only)

    none_configured : (o : Entry) → unpacked (slot_at k t) ≡ Learned o → (j : ℕ) → j < slots_of t → configured (slot_at j t) ≡ true → ⊥
    unfolding holds_configured
    none_configured o q j b h =
        let same : j ≡ k = only j b (configured_pair (slot_at j t) h) in
        let here : configured_that (entry_matches e.label e.mac) (unpacked (slot_at k t)) ≡ true = rw same at h in
        let z : ◌≡◌ {A = ℕ} 0 1 = cc in
        omega arith

    over_before : (s : Slot) → unpacked (slot_at k t) ≡ s → pick (found (lowest configured t)) (on_table learning.Kept t) (judged_at k e t) ≡ over_match s k e t
    unfolding holds holds_configured over_match pick
    over_before Free q = let h = hit in cc
    over_before Spoilt q = let h = hit in cc
    over_before (Learned o) q = rw (found_none configured t (lowest configured t) refl (none_configured o q)) (over_learned o q)
    over_before (Configured o) q =
        let here : configured (slot_at k t) ≡ true = rw q (rw q at hit) in
        rw (found_some configured t (lowest configured t) refl k within here)

  before_at : (p : Option ℕ) → lowest pair t ≡ p → pick (found (lowest configured t)) (on_table learning.Kept t) (judged p e t) ≡ learnt_before_at p e t
  unfolding judged learnt_before_at pick
  before_at (Some k) q = over_before k q (unpacked (slot_at k t)) refl
  before_at None q =
      rw (found_none configured t (lowest configured t) refl (λ j b h. let yes = configured_pair (slot_at j t) h in let no = lowest_miss pair t q j b in let z : ◌≡◌ {A = ℕ} 0 1 = cc in omega arith))

  pub learnt_before_lem : learnt e t ≡ learnt_before e t
  unfolding learnt learnt_before
  learnt_before_lem = rw rival_is (before_at (lowest pair t) refl)

-- and no pair stands twice then
module _ (e : Entry) (sound : Sound e) (t : List ℕ) (unique : Unique t) where
  unique_put : (k : ℕ) → k < slots_of t → OnlyAt k (holds e.label e.mac) t → Unique (put_entry k e t)
  unique_put k within only l m = alone_put (holds l m) (holds l m) t (unique l m) k within (packed learned_state e) (packed-length learned_state e) here here
    where
      here : holds l m (packed learned_state e) ≡ true → OnlyAt k (holds l m) t
      here h j b q = let s = packed_pair e sound l m h in only j b (rw (s.label, s.mac) at q)

  unique_over : (s : Slot) (k : ℕ) → Unique (put_entry k e t) → Unique (over_match s k e t).table
  unfolding over_match pick
  unique_over Free k u = unique
  unique_over Spoilt k u = unique
  unique_over (Learned o) k u = weighed (ltb e.confidence o.confidence)
    where
      weighed : (b : Bool) → Unique (pick b (on_table learning.Kept t) (on_table learning.Refreshed (put_entry k e t))).table
      weighed true = unique
      weighed false = u
  unique_over (Configured o) k u = unique

  unique_free : (p : Option ℕ) → lowest free_slot t ≡ p → lowest (holds e.label e.mac) t ≡ None → Unique (into_free p e t).table
  unfolding into_free
  unique_free (Some k) v q = unique_put k (lowest-within free_slot t k v) (λ j b h. let miss = lowest_miss (holds e.label e.mac) t q j b in cc)
  unique_free None v q = unique

  unique_at : (p : Option ℕ) → lowest (holds e.label e.mac) t ≡ p → Unique (learnt_before_at p e t).table
  unfolding learnt_before_at
  unique_at (Some k) q =
      let within = lowest-within (holds e.label e.mac) t k q in
      unique_over (unpacked (slot_at k t)) k
      (unique_put k within (λ j b h. unique e.label e.mac j k b within h (lowest_hit (holds e.label e.mac) t k q)))
  unique_at None q = unique_free (lowest free_slot t) refl q

  unique_before : Unique (learnt_before e t).table
  unfolding learnt_before
  unique_before = unique_at (lowest (holds e.label e.mac) t) refl

pub unmarked_as_before : UnmarkedAsBefore
unmarked_as_before e sound mark t unique = record {
  learnt_same = learnt_before_lem e mark t unique;
  unique = rw (learnt_before_lem e mark t unique) (unique_before e sound t unique);
}
