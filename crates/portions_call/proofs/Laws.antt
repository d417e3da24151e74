-- The portion call by its cases: refused by the table, by slot and k or by the payload, or cleared.
-- Assumes nothing.
use Prim.Native.Nat.{ℕ, ◌+◌, ◌≤◌, ◌<◌}
use mathlib.Core.Bool.{Bool, true, false, ◌||◌}
use mathlib.Core.List.{List}
use mathlib.Core.Path.{◌≡◌, refl, sym, ap, ◌∙◌}
use native.Mathlib.Omega.{arith}
use lib.Dec.{eqb, leb}
use borrow.Author.Tests.{eqb-true, eqb-false, leb-true, leb-false}
use Rattle.numbers.specs.Result.{Outcome}
use Rattle.numbers.specs.After.{OnTable, on_table}
use Rattle.numbers.proofs.Truth.{or_either, either_neither, false_true}
use Rattle.numbers.proofs.Answers.{got_got, then_got}
use Rattle.table.specs.Slots.{most_slots, table_good, slots_of, on_slots, count_slots}
use Rattle.flush.specs.Payload.{every_type, Payload, payload_of}
use Rattle.flush.specs.Flush.{slot_meant, cleared_slot}
use Rattle.flush_marks.specs.Marks.{cleared_in, swept_in}
use Rattle.flush_marks.specs.Filters.{Within}
use Rattle.flush_marks.specs.declared.Sweep.{Sweep}
use Rattle.flush_call.specs.Clearing.{sweeping_in, cleared_on}
use Rattle.flush_call.proofs.Calls.{ran_refused, ran_count, read_refused}
use Rattle.table.proofs.Slots.{count_few, good_slots}
use Rattle.portions.specs.Portion.{portion_steps, portion_by, portioned}
use Rattle.portions.proofs.Portions.{steps_within, bad_table, past, none, corrupt, ran}
use Rattle.std.specs.Prelude.{Ok, Err}
use Rattle.numbers.specs.declared.refusals.Refusal.TheVariants.{TableLengthBad, PortionBad}
use Rattle.numbers.specs.declared.refusals.Refusal.{Refusal}

-- ---- the call

module _ (ingress : ℕ) (l : List ℕ) (slot k : ℕ) (t : List ℕ) (g : Bool) (good : g ≡ table_good t) where
  pub portion_table : g ≡ false → on_table (Err TableLengthBad) t ≡ portioned ingress l slot k t
  portion_table h = sym (bad_table ingress l slot k t (sym good ∙ h))

  module _ (ok : g ≡ true) where
    by_tests : (a b : Bool) → eqb k 0 ≡ a → leb (slots_of t) slot ≡ b → a || b ≡ true → on_table (Err PortionBad) t ≡ portioned ingress l slot k t
    by_tests true b e f h = sym (none ingress l slot k t (sym good ∙ ok) (eqb-true k 0 e))
    by_tests false true e f h = sym (past ingress l slot k t (sym good ∙ ok) (leb-true (slots_of t) slot f))
    by_tests false false e f h = false_true h

    pub portion_refused : eqb k 0 || leb (slots_of t) slot ≡ true → on_table (Err PortionBad) t ≡ portioned ingress l slot k t
    portion_refused h = by_tests (eqb k 0) (leb (slots_of t) slot) refl refl h

    module _ (neither : eqb k 0 || leb (slots_of t) slot ≡ false) where
      tests : (eqb k 0 ≡ false) × (leb (slots_of t) slot ≡ false)
      tests = either_neither (eqb k 0) (leb (slots_of t) slot) (sym (or_either (eqb k 0) (leb (slots_of t) slot)) ∙ neither)

      inside : slot < slots_of t
      inside = leb-false (slots_of t) slot tests.1

      pub portion_below : slot ≤ slots_of t
      portion_below = omega (arith, inside)

      some : 0 < k
      some = let d = eqb-false k 0 tests.0 in omega arith

      module _ (m : ℕ) (steps : m ≡ portion_steps slot k (slots_of t)) where
        pub portion_within : Within slot m t
        portion_within =
            let room = steps_within slot k (slots_of t) (omega (arith, inside)) in
            record { few = good_slots t (sym good ∙ ok); room = omega arith }

        pub next_fits : slot + m ≤ most_slots
        next_fits =
            let within = portion_within in
            let few = within.few in
            let room = within.room in
            omega arith

        module _ (r : Outcome Sweep) (u : List ℕ) (cleared : on_table r u ≡ cleared_on t (sweeping_in every_type ingress l slot m t)) where
          pub portion_corrupt : (n : Refusal) → r ≡ Err n → on_table (Err n) u ≡ portioned ingress l slot k t
          unfolding sweeping_in
          portion_corrupt n e =
              let a = ran_refused t u r (sweeping_in every_type ingress l slot m t) cleared n e in
              rw a.1 (sym (corrupt ingress l slot k t (sym good ∙ ok) some inside n (read_refused (payload_of every_type l) _ n a.0)))

          module _ (s : Sweep) (e : r ≡ Ok s) where
            ended : (p : Payload) × (payload_of every_type l ≡ Ok p) × (swept_in (slot_meant every_type p ingress) slot m t ≡ on_table s u)
            unfolding sweeping_in
            ended =
                let (p, read, c) = then_got _ _ _ (ran_count t u r (sweeping_in every_type ingress l slot m t) cleared s e) in
                (p, read, got_got _ _ c)

            -- the slots examined are the definition's steps
            pub examined_steps : s.examined ≡ m
            unfolding swept_in
            examined_steps =
                let (p, read, c) = ended in
                sym (ap (λ (x : OnTable Sweep). x.answer.examined) c)

            pub portion_done : on_table (Ok (record { cleared = s.cleared; next = slot + s.examined; examined = s.examined })) u ≡ portioned ingress l slot k t
            unfolding portion_by swept_in cleared_in
            portion_done =
                let (p, read, c) = ended in
                let count : count_slots (slot_meant every_type p ingress) slot m t ≡ s.cleared = ap (λ (x : OnTable Sweep). x.answer.cleared) c in
                let left : on_slots (cleared_slot (slot_meant every_type p ingress)) slot m t ≡ u = ap (λ (x : OnTable Sweep). x.table) c in
                rw (examined_steps, ran ingress l slot k t (sym good ∙ ok) some inside p read, ← steps, count, left)

            pub count_fits : s.cleared ≤ most_slots
            unfolding swept_in cleared_in
            count_fits =
                let (p, read, c) = ended in
                let count : count_slots (slot_meant every_type p ingress) slot m t ≡ s.cleared = ap (λ (x : OnTable Sweep). x.answer.cleared) c in
                let few = count_few (slot_meant every_type p ingress) t slot m in
                let fits = next_fits in
                omega arith

            pub examined_fits : slot + s.examined ≤ most_slots
            examined_fits =
                let all = examined_steps in
                let fits = next_fits in
                omega arith
