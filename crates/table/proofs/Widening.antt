-- A widened record is what the old one was, unmarked.
-- Assumes nothing.
use Prim.Native.Nat.{ℕ, zero, suc, ◌+◌, ◌*◌, ◌<◌, ◌≤◌}
use mathlib.Core.Bool.{Bool, true, false}
use mathlib.Core.List.{List, [], ◌∷◌, ◌++◌}
use mathlib.Core.Path.{◌≡◌, refl, sym, ap, ◌∙◌}
use native.Mathlib.Decide.{ℕ_discrete}
use native.Mathlib.Omega.{arith}
use lib.Dec.{leb}
use lib.ListN.{length, take, drop, length-append, length-drop}
use lib.Seq.{take_all, take-append-le, drop-append-le, drop_at, get_or_at}
use Rattle.numbers.specs.Tests.{pick}
use Rattle.numbers.specs.Result.{check, settled, Outcome}
use Rattle.numbers.specs.After.{OnArea, on_area}
use Rattle.numbers.proofs.Bytes.{length_part}
use Rattle.table.specs.Record.{record_bytes, record_of, entry_of, held, slot_of, marked_slot, unpacked}
use Rattle.table.specs.Slots.{slot_bytes, slot_at}
use Rattle.table.specs.Table.{holds, holds_home, holds_unmarked}
use Rattle.table.specs.Widening.{old_good, old_slots, old_at, widened_to, wide, widened}
use Rattle.table.specs.Claims.{Apart, Unique, WideSlot, OldUnique, WidenedSame, WideningRefusal}
use Rattle.table.specs.declared.Entry.{Entry}
use Rattle.table.specs.declared.Slot.TheVariants.{Free, Spoilt, Learned, Configured}
use Rattle.table.proofs.Apart.{slot-home, slot_unmarked}
use Rattle.std.specs.Prelude.{Ok, Err}
use Rattle.numbers.specs.declared.refusals.Refusal.{Refusal}

-- ---- the bytes

module _ (old : List ℕ) where
  pub length_old : (k : ℕ) → record_bytes * k + record_bytes ≤ length old → length (old_at k old) ≡ record_bytes
  length_old k h = length_part old (record_bytes * k) record_bytes h

  pub length-wide : (n : ℕ) → record_bytes * n ≤ length old → length (widened_to n old) ≡ slot_bytes * n
  unfolding widened_to
  length-wide zero h = refl
  length-wide (suc n) h =
      let rest = length-wide n (omega arith) in
      let one = length_old n (omega arith) in
      simp (length-append) (omega arith)

  slot-wide : (n k : ℕ) → record_bytes * n ≤ length old → k < n → slot_at k (widened_to n old) ≡ old_at k old ++ 0 ∷ []
  unfolding widened_to
  slot-wide zero k h l = absurd (omega arith)
  slot-wide (suc n) k h l = go (ℕ_discrete k n) (slot-wide n k (omega arith))
    where
      front : length (widened_to n old) ≡ slot_bytes * n
      front = length-wide n (omega arith)

      record_long : length (old_at n old ++ 0 ∷ []) ≡ slot_bytes
      record_long = let one = length_old n (omega arith) in simp (length-append) (omega arith)

      go : Dec (k ≡ n) → (k < n → slot_at k (widened_to n old) ≡ old_at k old ++ 0 ∷ []) → slot_at k (widened_to n old ++ (old_at n old ++ 0 ∷ [])) ≡ old_at k old ++ 0 ∷ []
      go (yes e) ih =
          rw e
          (ap (take slot_bytes) (drop_at (widened_to n old) (old_at n old ++ 0 ∷ []) (slot_bytes * n) front)
          ∙ take_all slot_bytes (old_at n old ++ 0 ∷ []) (omega (arith, record_long)))
      go (no d) ih =
          let room : slot_bytes ≤ length (drop (slot_bytes * k) (widened_to n old)) = simp length-drop (omega (arith, front)) in
          ap (take slot_bytes) (drop-append-le (slot_bytes * k) (widened_to n old) (old_at n old ++ 0 ∷ []) (omega (arith, front)))
          ∙ take-append-le slot_bytes (drop (slot_bytes * k) (widened_to n old)) (old_at n old ++ 0 ∷ []) room
          ∙ ih (omega arith)

-- ---- one record

unmarked_same : (z g s : Bool) (n : ℕ) → marked_slot 0 (pick z Free (pick g (pick s (Learned (entry_of n)) (Configured (entry_of n))) Spoilt)) ≡ pick z Free (pick g (pick s (Learned (entry_of n)) (Configured (entry_of n))) Spoilt)
unfolding marked_slot pick entry_of
unmarked_same true g s n = refl
unmarked_same false true true n = refl
unmarked_same false true false n = refl
unmarked_same false false s n = refl

zero_same : (n : ℕ) → marked_slot 0 (slot_of n) ≡ slot_of n
unfolding slot_of held
zero_same n = unmarked_same _ _ _ n

unpacked-wide : (r : List ℕ) → length r ≡ record_bytes → unpacked (r ++ 0 ∷ []) ≡ slot_of (record_of r)
unfolding unpacked
unpacked-wide r h = rw (get_or_at r 0 [] 0 record_bytes h, take-append-le record_bytes r (0 ∷ []) (omega arith)) (zero_same (record_of r))

unmarked_learned : (z g s : Bool) (n : ℕ) (e : Entry) → pick z Free (pick g (pick s (Learned (entry_of n)) (Configured (entry_of n))) Spoilt) ≡ Learned e → entry_of n ≡ e
unfolding pick
unmarked_learned true g s n e h = cc
unmarked_learned false true true n e h = cc
unmarked_learned false true false n e h = cc
unmarked_learned false false s n e h = cc

unmarked_configured : (z g s : Bool) (n : ℕ) (e : Entry) → pick z Free (pick g (pick s (Learned (entry_of n)) (Configured (entry_of n))) Spoilt) ≡ Configured e → entry_of n ≡ e
unfolding pick
unmarked_configured true g s n e h = cc
unmarked_configured false true true n e h = cc
unmarked_configured false true false n e h = cc
unmarked_configured false false s n e h = cc

entry_unmarked : (n : ℕ) → (entry_of n).multihomed ≡ false
unfolding entry_of
entry_unmarked n = refl

slot_learned_unmarked : (n : ℕ) (e : Entry) → slot_of n ≡ Learned e → e.multihomed ≡ false
unfolding slot_of held
slot_learned_unmarked n e h = ap (λ (x : Entry). x.multihomed) (sym (unmarked_learned _ _ _ n e h)) ∙ entry_unmarked n

slot-configured_unmarked : (n : ℕ) (e : Entry) → slot_of n ≡ Configured e → e.multihomed ≡ false
unfolding slot_of held
slot-configured_unmarked n e h = ap (λ (x : Entry). x.multihomed) (sym (unmarked_configured _ _ _ n e h)) ∙ entry_unmarked n

-- ---- the table

module _ (old : List ℕ) where
  wide_long : length (wide old) ≡ slot_bytes * old_slots old
  unfolding wide
  wide_long = length-wide old (old_slots old) (omega arith)

  wide_bytes : (k : ℕ) → k < old_slots old → slot_at k (wide old) ≡ old_at k old ++ 0 ∷ []
  unfolding wide
  wide_bytes k h = slot-wide old (old_slots old) k (omega arith) h

  wide_same : (k : ℕ) → k < old_slots old → unpacked (slot_at k (wide old)) ≡ slot_of (record_of (old_at k old))
  wide_same k h = ap unpacked (wide_bytes k h) ∙ unpacked-wide (old_at k old) (length_old old k (omega arith))

  wide-slot : (k : ℕ) → k < old_slots old → WideSlot old k
  wide-slot k h = record {
    bytes = wide_bytes k h;
    same = wide_same k h;
    learned = λ e q. slot_learned_unmarked (record_of (old_at k old)) e (sym (wide_same k h) ∙ q);
    configured = λ e q. slot-configured_unmarked (record_of (old_at k old)) e (sym (wide_same k h) ∙ q);
  }

  wide_unique : OldUnique old → Unique (wide old)
  unfolding holds
  wide_unique unique l m i j hi hj p q =
      let long = wide_long in
      let li : i < old_slots old = omega arith in
      let lj : j < old_slots old = omega arith in
      unique l m i j li lj (rw (wide_same i li) at p) (rw (wide_same j lj) at q)

  wide-apart : OldUnique old → Apart (wide old)
  unfolding holds holds_home holds_unmarked
  wide-apart unique = record {
    homes = λ l m n i j hi hj p q. wide_unique unique l m i j hi hj (slot-home l m n (unpacked (slot_at i (wide old))) p) (slot-home l m n (unpacked (slot_at j (wide old))) q);
    unmarked = λ l m i j hi hj p q. wide_unique unique l m i j hi hj (slot_unmarked l m (unpacked (slot_at i (wide old))) p) q;
  }

pub widened_same : WidenedSame
widened_same = record { long = wide_long; each = wide-slot; unique = wide_unique; apart = wide-apart }

-- ---- the call

-- what is refused leaves the area as it was
refusal_leaves : (a b : Bool) (x y n : Refusal) (area : List ℕ) (w : OnArea (Outcome ℕ)) → ((k : Refusal) → w.answer ≡ Err k → ⊥) → (settled (λ k. on_area (Err k) area) (check a x (check b y (Ok w)))).answer ≡ Err n → (settled (λ k. on_area (Err k) area) (check a x (check b y (Ok w)))).area ≡ area
unfolding settled check
refusal_leaves false b x y n area w done h = refl
refusal_leaves true false x y n area w done h = refl
refusal_leaves true true x y n area w done h = absurd (done n h)

pub widening_refusal : WideningRefusal
unfolding widened
widening_refusal old area n h =
    refusal_leaves (old_good old) (leb (slot_bytes * old_slots old) (length area)) _ _ n area _ (λ k e. let z : ◌≡◌ {A = ℕ} 0 1 = cc in omega arith) h
