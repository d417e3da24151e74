-- Laws of ageing: which slots stay as they are, and slot after slot.
-- Assumes nothing.
use Prim.Native.Nat.{ℕ, ◌+◌, ◌-◌, ◌*◌, ◌<◌, ◌≤◌}
use mathlib.Core.Bool.{Bool, true, false}
use mathlib.Core.List.{List, ◌++◌}
use mathlib.Core.Path.{◌≡◌, refl, sym, ap, ◌∙◌}
use native.Mathlib.Decide.{ℕ_discrete}
use native.Mathlib.Nat.{add-sub_cancel_left}
use native.Mathlib.Omega.{arith}
use lib.ListN.{length, take, drop, length-take, length-drop}
use lib.Dec.{leb}
use Rattle.numbers.specs.Tests.{pick}
use Rattle.numbers.specs.Result.{check, settled, finished}
use Rattle.numbers.specs.After.{on_table}
use Rattle.table.specs.Record.{record_of, state_of, learned_state, seconds_of, unpacked, is_learned}
use Rattle.table.specs.Slots.{slot_bytes, table_good, slots_of, slot_at, freed, on_slots}
use Rattle.table.specs.Table.{aged_slot, less_seconds, aged}
use Rattle.table.proofs.Slots.{on_step}
use Rattle.table.proofs.Ageing.{aged_keeps}
use Rattle.table_rounds.specs.Rounds.{InState, Passed}
use Rattle.table_rounds.proofs.Laws.{kept_slots}
use Rattle.table.proofs.Contents.{record_near, unpacked_near, other_than_learned}
use Rattle.std.specs.Prelude.{Err}
use Rattle.numbers.specs.declared.refusals.Refusal.TheVariants.{TableLengthBad}

module _ (s : ℕ) (r : List ℕ) where
  pub age_kept : (l : Bool) → l ≡ is_learned (unpacked r) → l ≡ false → r ≡ aged_slot s r
  unfolding aged_slot pick
  age_kept l e h = rw (← e, h)

  age_other : (state_of (record_of r) ≡ learned_state → ⊥) → r ≡ aged_slot s r
  age_other h = age_kept false (other_than_learned r h) refl

  module _ (learned : is_learned (unpacked r) ≡ true) (out : Bool) (is : out ≡ leb (seconds_of (record_of r)) s) where
    pub age_freed : out ≡ true → freed ≡ aged_slot s r
    unfolding aged_slot pick
    age_freed h = rw (learned, ← is, h)

    pub age_less : out ≡ false → (u : List ℕ) → u ≡ pick (leb (seconds_of (record_of r)) s) r (less_seconds s r) → u ≡ aged_slot s r
    unfolding aged_slot pick
    age_less h u e = e ∙ rw (learned, ← is, h)

-- ---- slot after slot, with slot i lent as `&mut t[a..e]`, a = slot_bytes * i, e = a + slot_bytes

pub length_at : (a : ℕ) (u : List ℕ) → a + slot_bytes ≤ length u → length (take (a + slot_bytes - a) (drop a u)) ≡ slot_bytes
length_at a u h = simp (length-take, length-drop) (omega arith)

pub learned_lent : (a : ℕ) (u : List ℕ) → unpacked (take (a + slot_bytes - a) (drop a u)) ≡ unpacked (drop a u)
learned_lent a u = rw (add-sub_cancel_left a slot_bytes) (unpacked_near (drop a u))

module _ (s : ℕ) (t u : List ℕ) (i : ℕ) (so_far : u ≡ on_slots (aged_slot s) 0 i t) where
  pub aged_at : (a : ℕ) → a ≡ slot_bytes * i → a + slot_bytes ≤ length t → (r : List ℕ) → r ≡ aged_slot s (take (a + slot_bytes - a) (drop a u))
      → take a u ++ (r ++ drop (a + slot_bytes - a) (drop a u)) ≡ on_slots (aged_slot s) 0 (i + 1) t
  aged_at a e h r f =
      let g : r ≡ aged_slot s (take (slot_bytes * i + slot_bytes - slot_bytes * i) (drop (slot_bytes * i) u)) = rw e at f in
      rw e (on_step (aged_slot s) (aged_keeps s) t 0 i i (omega arith) (omega arith) u so_far r g)

  -- one that is not learned, and then those of other states
  pub passed_by : (a j : ℕ) → a ≡ slot_bytes * i → i < j → slot_bytes * j ≤ length t → (l : Bool) → l ≡ is_learned (unpacked (drop a u)) → l ≡ false → Passed (InState learned_state) (i + 1) j u → u ≡ on_slots (aged_slot s) 0 j t
  passed_by a j e h room l is unlearned passed = kept_slots (aged_slot s) (aged_keeps s) t u i so_far j (omega arith) room (λ k low high. go k low high (ℕ_discrete k i))
    where
      go : (k : ℕ) → i ≤ k → k < j → Dec (k ≡ i) → slot_at k u ≡ aged_slot s (slot_at k u)
      go k low high (yes same) =
          let offset : a ≡ slot_bytes * k = omega arith in
          age_kept s (slot_at k u) l (is ∙ ap is_learned (sym (unpacked_near (drop a u)) ∙ ap (λ (n : ℕ). unpacked (take slot_bytes (drop n u))) offset)) unlearned
      go k low high (no other) =
          age_other s (slot_at k u) (λ q. passed k (omega arith) high (sym (ap state_of (record_near (drop (slot_bytes * k) u))) ∙ q))

-- ---- the call

module _ (s : ℕ) (t : List ℕ) (g : Bool) (good : g ≡ table_good t) where
  pub age_refused : g ≡ false → on_table (Err TableLengthBad) t ≡ aged s t
  unfolding aged settled check
  age_refused h = rw (← good, h)

  pub age_done : g ≡ true → (u : List ℕ) → u ≡ on_slots (aged_slot s) 0 (slots_of t) t → on_table finished u ≡ aged s t
  unfolding aged settled check
  age_done h u e = rw (← good, h, e)
