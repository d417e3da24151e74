-- Laws of the search for a free slot: what the rounds exclude, and what is counted; the outcomes of the search and of the call.
-- Assumes nothing.
use Prim.Native.Nat.{ℕ, zero, suc, ◌+◌, ◌-◌, ◌*◌, ◌<◌, ◌≤◌}
use mathlib.Core.Bool.{Bool, true, false}
use mathlib.Core.List.{List}
use mathlib.Core.Path.{◌≡◌, refl, sym, ap, ◌∙◌}
use native.Mathlib.Nat.{zero-add, add-zero}
use native.Mathlib.Numerals.{add-one}
use native.Mathlib.Decide.{ℕ_discrete}
use native.Mathlib.Omega.{arith}
use lib.Dec.{eqb}
use lib.ListN.{drop}
use borrow.Author.Tests.{eq-eqb, ne_eqb}
use Rattle.numbers.specs.Tests.{pick}
use Rattle.numbers.specs.Result.{check, settled}
use Rattle.numbers.proofs.Truth.{pick_true, pick_false}
use Rattle.table.specs.FreeSlot.{state_free, slots_searched, slots_unpacked, free_search, free_found, free_answered}
use Rattle.table.specs.Learning.{free_slot}
use Rattle.table.specs.Record.{record_of, state_of, unpacked}
use Rattle.table.specs.Slots.{slot_bytes, most_slots, table_good, slots_of, count_slots, first_slot, lowest}
use Rattle.table.specs.declared.FreeSearch.{FreeSearch}
use Rattle.table.specs.declared.FreeAnswer.TheVariants as free
use Rattle.table.proofs.Slots.{Local, search_next, search_hit, search_end, lowest-within, count_few, count_next, good_slots}
use Rattle.table.proofs.FreeSlot.{state_free_near, state_other}
use Rattle.table.proofs.Contents.{free_is, free_near, other_than_free}
use Rattle.table.proofs.Marks.{free_none}
use Rattle.table_rounds.specs.Rounds.{InState, InOther, Blank, Passed}
use Rattle.table_rounds.proofs.Laws.{past}
use Rattle.std.specs.Prelude.{Option, Some, None, Ok, Err}
use Rattle.numbers.specs.declared.refusals.Refusal.TheVariants.{TableLengthBad}

-- slots that a round excludes are passed by
free_past : (t : List ℕ) (i j : ℕ) → i ≤ j → Passed (InState 0) i j t → first_slot free_slot i t ≡ None → first_slot free_slot j t ≡ None
free_past = past free_slot free_near (InState 0) other_than_free

-- slots that a round excludes are not counted
count_past : (p : List ℕ → Bool) → Local p → (P : List ℕ → Type 0) → ((r : List ℕ) → (P r → ⊥) → p r ≡ false)
    → (t : List ℕ) (i j : ℕ) → i ≤ j → Passed P i j t → count_slots p 0 j t ≡ count_slots p 0 i t
count_past p near P other t i j h passed = let far : j - i + i ≡ j = omega arith in rw far at (go (j - i) (omega arith))
  where
    go : (d : ℕ) → d + i ≤ j → count_slots p 0 (d + i) t ≡ count_slots p 0 i t
    go zero b = rw (zero-add i)
    go (suc d) b =
        let next : suc d + i ≡ d + i + 1 = omega arith in
        let skips : ◌≡◌ {A = ℕ} (pick (p (drop (slot_bytes * (d + i)) t)) 1 0) 0 = pick_false _ 1 0 (other (drop (slot_bytes * (d + i)) t) (passed (d + i) (omega arith) (omega arith))) in
        let ih = go d (omega arith) in
        rw next (count_next p near t (d + i) ∙ ap (λ (n : ℕ). count_slots p 0 (d + i) t + n) skips ∙ add-zero _ ∙ ih)

-- a slot whose first four bytes are not 0 is not free; slots that are all such are passed by
other_than_blank : (r : List ℕ) → (Blank r → ⊥) → false ≡ free_slot r
unfolding free_slot unpacked
other_than_blank r h = free_none _ _ (free_is (record_of r) ∙ ne_eqb (record_of r) 0 (λ z. h (omega arith)))

blank_past : (t : List ℕ) (i j : ℕ) → i ≤ j → Passed Blank i j t → first_slot free_slot i t ≡ None → first_slot free_slot j t ≡ None
blank_past = past free_slot free_near Blank other_than_blank

-- slots that are all of state 0 are counted, each
state_same : (r : List ℕ) → (InOther 0 r → ⊥) → state_free r ≡ true
unfolding state_free
state_same r same = go (ℕ_discrete (state_of (record_of r)) 0)
  where
    go : Dec (state_of (record_of r) ≡ 0) → eqb (state_of (record_of r)) 0 ≡ true
    go (yes e) = eq-eqb _ 0 e
    go (no e) = absurd (same e)

count_each : (t : List ℕ) (i j : ℕ) → i ≤ j → Passed (InOther 0) i j t → count_slots state_free 0 j t ≡ count_slots state_free 0 i t + (j - i)
count_each t i j h passed = let far : j - i + i ≡ j = omega arith in rw far at (go (j - i) (omega arith))
  where
    go : (d : ℕ) → d + i ≤ j → count_slots state_free 0 (d + i) t ≡ count_slots state_free 0 i t + d
    go zero b = rw (zero-add i) (sym (add-zero _))
    go (suc d) b =
        let next : suc d + i ≡ d + i + 1 = omega arith in
        let one : ◌≡◌ {A = ℕ} (pick (state_free (drop (slot_bytes * (d + i)) t)) 1 0) 1 = pick_true _ 1 0 (state_same (drop (slot_bytes * (d + i)) t) (passed (d + i) (omega arith) (omega arith))) in
        let ih = go d (omega arith) in
        let step = count_next state_free state_free_near t (d + i) in
        rw next (omega (arith, ih, step, one))

-- ---- the search for a free slot

-- one slot, by its state: in another state it is neither free nor unpacked, and one of state 0 is unpacked
module _ (r : List ℕ) (s : ℕ) (state : s ≡ state_of (record_of r)) (n : ℕ) where
  pub step_other : (s ≡ 0 → ⊥) → (false ≡ free_slot r) × (n ≡ n + pick (state_free r) 1 0)
  unfolding pick
  step_other h =
      let differs : state_of (record_of r) ≡ 0 → ⊥ = λ e. h (state ∙ e) in
      (other_than_free r differs, rw (state_other r differs) (omega arith))

  pub step_counted : s ≡ 0 → n + 1 ≡ n + pick (state_free r) 1 0
  unfolding state_free pick
  step_counted h = rw (sym state ∙ h)

module _ (t : List ℕ) (i u : ℕ) (counted : u ≡ count_slots state_free 0 i t) (so_far : first_slot free_slot i t ≡ None)
    (free : Bool) (here : free ≡ free_slot (drop (slot_bytes * i) t)) (v : ℕ) (more : v ≡ u + pick (state_free (drop (slot_bytes * i) t)) 1 0) where
  -- the slots up to this one
  count_here : v ≡ count_slots state_free 0 (i + 1) t
  count_here = more ∙ ap (λ (n : ℕ). n + pick (state_free (drop (slot_bytes * i) t)) 1 0) counted ∙ sym (count_next state_free state_free_near t i)

  -- found
  pub free_hit : i < slots_of t → free ≡ true → record { place = Some i; unpacked = v } ≡ free_search t
  unfolding free_search slots_unpacked slots_searched
  free_hit h hit =
      let found = search_hit free_slot free_near t i so_far free here h hit in
      rw (← found, ← add-one i, ← count_here)

  -- not found: the rounds pass to slot j
  pub free_on : free ≡ false → (j : ℕ) → i + 1 ≤ j → Passed (InState 0) (i + 1) j t → (first_slot free_slot j t ≡ None) × (v ≡ count_slots state_free 0 j t)
  free_on miss j h passed = (
    free_past t (i + 1) j h passed (search_next free_slot free_near t i so_far free here miss),
    count_here ∙ sym (count_past state_free state_free_near (InState 0) state_other t (i + 1) j h passed),
  )

  -- not found: rounds of spoilt records of state 0 pass to slot j
  pub spoilt_on : free ≡ false → (j : ℕ) → i + 1 ≤ j → Passed (InOther 0) (i + 1) j t → Passed Blank (i + 1) j t → (first_slot free_slot j t ≡ None) × (v + (j - (i + 1)) ≡ count_slots state_free 0 j t)
  spoilt_on miss j h unpacked some = (
    blank_past t (i + 1) j h some (search_next free_slot free_near t i so_far free here miss),
    ap (λ (n : ℕ). n + (j - (i + 1))) count_here ∙ sym (count_each t (i + 1) j h unpacked),
  )

  -- the slots counted are few
  pub spoilt_few : (j : ℕ) → i + 1 ≤ j → v + (j - (i + 1)) ≤ j
  spoilt_few j h = let few = count_few state_free t 0 (i + 1) in let is = count_here in omega arith

-- at the end
pub free_end : (t : List ℕ) (i u : ℕ) → u ≡ count_slots state_free 0 i t → first_slot free_slot i t ≡ None → i ≤ slots_of t → slots_of t ≤ i → record { place = None; unpacked = u } ≡ free_search t
unfolding free_search slots_unpacked slots_searched
free_end t i u counted so_far a b =
    let none = search_end free_slot free_near t i a b so_far in
    let done : i ≡ slots_of t = omega arith in
    rw (← none, ← done, ← counted)

-- ---- the outcomes of the search for a free slot, as a call

module _ (t : List ℕ) (g : Bool) (good : g ≡ table_good t) where
  pub free_refused : g ≡ false → Err TableLengthBad ≡ free_answered t
  unfolding free_answered settled check
  free_refused h = rw (← good, h)

  module _ (ok : g ≡ true) (s : FreeSearch) (search : s ≡ free_search t) where
    pub free_found_lem : (k : ℕ) → s.place ≡ Some k → (Ok (free.Lowest k s.unpacked)) ≡ free_answered t
    unfolding free_answered settled check free_found
    free_found_lem k e = rw (← good, ok, ← search, e)

    pub free_full : s.place ≡ None → (Ok (free.Full s.unpacked)) ≡ free_answered t
    unfolding free_answered settled check free_found
    free_full e = rw (← good, ok, ← search, e)

    -- the slots of a good table are few
    pub unpacked_fits : s.unpacked ≤ most_slots
    unfolding free_search slots_unpacked slots_searched
    unpacked_fits =
        let few = good_slots t (sym good ∙ ok) in
        let n = count_few state_free t 0 (slots_searched (lowest free_slot t) (slots_of t)) in
        let m = searched_few (lowest free_slot t) (lowest-within free_slot t) in
        rw search (omega arith)
      where
        searched_few : (p : Option ℕ) → ((k : ℕ) → p ≡ Some k → k < slots_of t) → slots_searched p (slots_of t) ≤ slots_of t
        searched_few (Some k) h = let l = h k refl in omega arith
        searched_few None h = omega arith

    pub slot_fits : (k : ℕ) → s.place ≡ Some k → k < most_slots
    unfolding free_search
    slot_fits k e =
        let few = good_slots t (sym good ∙ ok) in
        let l = lowest-within free_slot t k (ap (λ (x : FreeSearch). x.place) (sym search) ∙ e) in
        omega arith
