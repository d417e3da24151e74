-- Laws of the search for a free slot.
-- Assumes nothing.
use Prim.Native.Nat.{ℕ, ◌<◌}
use native.Mathlib.Omega.{arith}
use mathlib.Core.Bool.{Bool, true, false}
use mathlib.Core.List.{List}
use mathlib.Core.Path.{◌≡◌, refl, sym, ap, ◌∙◌}
use lib.Dec.{eqb}
use borrow.Author.Tests.{ne_eqb}
use Rattle.table.specs.Record.{free_state, record_of, state_of, unpacked, is_free}
use Rattle.table.specs.Slots.{slots_of, slot_at, lowest}
use Rattle.table.specs.Learning.{free_slot}
use Rattle.table.specs.FreeSlot.{state_free, slots_searched, slots_unpacked, free_search, FreeSlotFound, FoundAt, FoundNowhere, IsFree}
use Rattle.table.specs.declared.Slot.{Slot}
use Rattle.table.specs.declared.Slot.TheVariants.{Free, Spoilt, Learned, Configured}
use Rattle.table.proofs.Slots.{Local, lowest-within, lowest_hit, lowest_miss, lowest_before}
use Rattle.table.proofs.Contents.{record_near}
use Rattle.std.specs.Prelude.{Option, Some, None}

pub state_free_near : Local state_free
unfolding state_free
state_free_near x = ap (λ (n : ℕ). eqb (state_of n) free_state) (record_near x)

-- a record in another state is not counted, and one of state 0 is
pub state_other : (r : List ℕ) → (state_of (record_of r) ≡ free_state → ⊥) → state_free r ≡ false
unfolding state_free
state_other r h = ne_eqb (state_of (record_of r)) free_state h

-- a free slot passes the test, and nothing else does
passes : (k : ℕ) (t : List ℕ) → IsFree k t → free_slot (slot_at k t) ≡ true
unfolding free_slot is_free
passes k t e = rw e

is_free_lem : (s : Slot) → is_free s ≡ true → s ≡ Free
unfolding is_free
is_free_lem Free e = refl
is_free_lem Spoilt e = cc
is_free_lem (Learned x) e = cc
is_free_lem (Configured x) e = cc

fails : (k : ℕ) (t : List ℕ) → free_slot (slot_at k t) ≡ false → IsFree k t → ⊥
fails k t e h = let z : ◌≡◌ {A = Bool} true false = sym (passes k t h) ∙ e in let o : ◌≡◌ {A = ℕ} 0 1 = cc in omega arith

unpacked_at : (t : List ℕ) (p : Option ℕ) → lowest free_slot t ≡ p → (free_search t).unpacked ≡ slots_unpacked p t
unfolding free_search
unpacked_at t p e = ap (λ (q : Option ℕ). slots_unpacked q t) e

found_at : (t : List ℕ) (k : ℕ) → lowest free_slot t ≡ Some k → FoundAt t k
unfolding free_slot slots_unpacked slots_searched
found_at t k e = record {
  within = lowest-within free_slot t k e;
  free = is_free_lem (unpacked (slot_at k t)) (lowest_hit free_slot t k e);
  lowest = λ j h. fails j t (lowest_before free_slot t k e j h);
  counted = unpacked_at t (Some k) e;
}

found_nowhere : (t : List ℕ) → lowest free_slot t ≡ None → FoundNowhere t
unfolding slots_unpacked slots_searched
found_nowhere t e = record {
  none = λ j h. fails j t (lowest_miss free_slot t e j h);
  counted = unpacked_at t None e;
}

pub free_slot-found : FreeSlotFound
unfolding free_search
free_slot-found t = record {
  found = found_at t;
  nowhere = found_nowhere t;
  only_then = λ none. by_place (lowest free_slot t) refl none;
}
  where
    by_place : (p : Option ℕ) → lowest free_slot t ≡ p → ((j : ℕ) → j < slots_of t → IsFree j t → ⊥) → p ≡ None
    by_place (Some k) e none = let f = found_at t k e in absurd (none k f.within f.free)
    by_place None e none = refl
