-- Where none but slot k holds a pair, clearing the pair's other records changes nothing.
-- Assumes nothing.
use Prim.Native.Nat.{ℕ, zero, suc, ◌+◌, ◌*◌, ◌<◌, ◌≤◌}
use mathlib.Core.Bool.{Bool, true, false}
use mathlib.Core.List.{List, ◌++◌}
use mathlib.Core.Path.{◌≡◌, refl, sym, ap, ◌∙◌}
use native.Mathlib.Decide.{ℕ_discrete}
use native.Mathlib.Nat.{zero-add}
use native.Mathlib.Omega.{arith}
use lib.ListN.{length, take, drop, take-append-drop}
use lib.Seq.{take_at, length-take-le}
use Rattle.numbers.specs.Tests.{pick}
use Rattle.numbers.proofs.Truth.{not_true_false}
use Rattle.table.specs.Record.{learned_state, packed, unpacked, entry_matches, learned_that, slot_that}
use Rattle.table.specs.Slots.{slot_bytes, slots_of, slot_at, put_slot, on_slots}
use Rattle.table.specs.Table.{holds, holds_learned}
use Rattle.table.specs.Learning.{put_entry, cleared_pair, room_for}
use Rattle.table.specs.declared.Entry.{Entry}
use Rattle.table.specs.declared.Slot.{Slot}
use Rattle.table.specs.declared.Slot.TheVariants.{Free, Spoilt, Learned, Configured}
use Rattle.table.proofs.Slots.{Keeps, length-slot_at, slot_put_other, drop_next, drop-put_slot}
use Rattle.table.proofs.Apart.{OnlyAt, cleared_keeps}

-- one slot put twice, or put as it was
module _ (k : ℕ) (t : List ℕ) where
  put_own : put_slot k (slot_at k t) t ≡ t
  put_own = ap (λ (l : List ℕ). take (slot_bytes * k) t ++ l) (take-append-drop slot_bytes (drop (slot_bytes * k) t)) ∙ take-append-drop (slot_bytes * k) t

  put_put : (r s : List ℕ) → slot_bytes * k + slot_bytes ≤ length t → length s ≡ slot_bytes → put_slot k r (put_slot k s t) ≡ put_slot k r t
  put_put r s room whole =
      let front : take (slot_bytes * k) (put_slot k s t) ≡ take (slot_bytes * k) t = take_at (take (slot_bytes * k) t) (s ++ drop slot_bytes (drop (slot_bytes * k) t)) (slot_bytes * k) (length-take-le (slot_bytes * k) t (omega arith)) in
      let after : drop slot_bytes (drop (slot_bytes * k) (put_slot k s t)) ≡ drop slot_bytes (drop (slot_bytes * k) t) = sym (drop_next k (put_slot k s t)) ∙ drop-put_slot k s t room whole ∙ drop_next k t in
      rw (front, after)

-- a change that changes no slot but k
module _ (f : List ℕ → List ℕ) (keeps : Keeps f) (t : List ℕ) (k : ℕ) (within : k < slots_of t) (others : (j : ℕ) → j < slots_of t → (j ≡ k → ⊥) → f (slot_at j t) ≡ slot_at j t) where
  room : slot_bytes * k + slot_bytes ≤ length t
  room = omega arith

  whole : length (f (slot_at k t)) ≡ slot_bytes
  whole = keeps (slot_at k t) (length-slot_at k t room)

  on_below : (n : ℕ) → n ≤ k → on_slots f 0 n t ≡ t
  unfolding on_slots
  on_below zero h = refl
  on_below (suc n) h = rw (zero-add n, on_below n (omega arith), others n (omega arith) (λ e. omega arith)) (put_own n t)

  on_one : (n : ℕ) → n ≤ slots_of t → k < n → on_slots f 0 n t ≡ put_slot k (f (slot_at k t)) t
  unfolding on_slots
  on_one zero a h = absurd (omega arith)
  on_one (suc n) a h = rw (zero-add n) (go (ℕ_discrete n k) (on_one n (omega arith)))
    where
      go : Dec (n ≡ k) → (k < n → on_slots f 0 n t ≡ put_slot k (f (slot_at k t)) t) → put_slot n (f (slot_at n t)) (on_slots f 0 n t) ≡ put_slot k (f (slot_at k t)) t
      go (yes e) ih = rw (on_below n (omega arith), e)
      go (no d) ih =
          rw (ih (omega arith), others n (omega arith) d, ← slot_put_other n k (f (slot_at k t)) t d room whole) (put_own n (put_slot k (f (slot_at k t)) t))

  pub put_over : (r : List ℕ) → put_slot k r (on_slots f 0 (slots_of t) t) ≡ put_slot k r t
  put_over r = rw (on_one (slots_of t) (omega arith) within) (put_put k t r (f (slot_at k t)) room whole)

-- where none but slot k holds the pair, clearing the others changes nothing
cleared_same : (e : Entry) (r : List ℕ) → holds e.label e.mac r ≡ false → cleared_pair e r ≡ r
unfolding cleared_pair holds_learned holds pick
cleared_same e r h = rw (slot_none (unpacked r) h)
  where
    slot_none : (s : Slot) → slot_that (entry_matches e.label e.mac) s ≡ false → learned_that (entry_matches e.label e.mac) s ≡ false
    slot_none Free h = h
    slot_none Spoilt h = h
    slot_none (Learned o) h = h
    slot_none (Configured o) h = refl

module _ (e : Entry) (t : List ℕ) (k : ℕ) (within : k < slots_of t) where
  pub room_once : OnlyAt k (holds e.label e.mac) t → put_entry k e (room_for e t) ≡ put_entry k e t
  unfolding room_for pick
  room_once only = go e.multihomed
    where
      others : (j : ℕ) → j < slots_of t → (j ≡ k → ⊥) → cleared_pair e (slot_at j t) ≡ slot_at j t
      others j b d = cleared_same e (slot_at j t) (not_true_false (holds e.label e.mac (slot_at j t)) (λ h. d (only j b h)))

      go : (b : Bool) → put_entry k e (pick b t (on_slots (cleared_pair e) 0 (slots_of t) t)) ≡ put_entry k e t
      go true = refl
      go false = put_over (cleared_pair e) (cleared_keeps e) t k within others (packed learned_state e)
