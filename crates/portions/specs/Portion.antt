-- One portion of a flush: at most k slots from a slot on; and several portions one after another.
-- Assumes nothing.
use Rattle.std.specs.Prelude.{ℕ, ◌+◌, ◌-◌, Bool, List, [], ◌∷◌, leb, ltb, Ok, Err}
use Rattle.numbers.specs.Tests.{pick, both}
use Rattle.numbers.specs.Result.{check, and_then, settled, Outcome}
use Rattle.numbers.specs.After.{OnTable, on_table}
use Rattle.table.specs.Slots.{table_good, slots_of, on_slots, count_slots}
use Rattle.flush.specs.Payload.{every_type, payload_of}
use Rattle.flush.specs.Flush.{slot_meant, cleared_slot}
use Rattle.portions.specs.declared.Portion.{Portion}
use Rattle.numbers.specs.declared.refusals.Refusal.TheVariants.{TableLengthBad, PortionBad}

-- "the smaller of k and the slots left": the steps of a portion of a table of n slots
unfoldable pub portion_steps : ℕ → ℕ → ℕ → ℕ
portion_steps slot k n = pick (leb k (n - slot)) k (n - slot)

-- m slots from the slot on are examined; those that are meant are cleared and counted
unfoldable pub portion_by : (List ℕ → Bool) → ℕ → ℕ → List ℕ → OnTable Portion
portion_by meant slot m t =
    on_table
    (record { cleared = count_slots meant slot m t; next = slot + m; examined = m })
    (on_slots (cleared_slot meant) slot m t)

abbrev pub portion_answered : OnTable Portion → OnTable (Outcome Portion)
portion_answered c = on_table (Ok c.answer) c.table

-- the call: 2, then 24, then 15 for the whole payload
unfoldable pub portioned : ℕ → List ℕ → ℕ → ℕ → List ℕ → OnTable (Outcome Portion)
portioned ingress l slot k t =
    settled (λ n. on_table (Err n) t)
    (check (table_good t) TableLengthBad
    (check (both (leb 1 k) (ltb slot (slots_of t))) PortionBad
    (and_then (payload_of every_type l) λ p.
    Ok (portion_answered (portion_by (slot_meant every_type p ingress) slot (portion_steps slot k (slots_of t)) t)))))

-- ---- portions one after another, with the same message and nothing else touching the table

-- where a run stands: records cleared so far, the slot to go on from, the table
pub record Run : Type 0 where
  pub cleared : ℕ
  pub next : ℕ
  pub table : List ℕ

abbrev pub stands : ℕ → ℕ → List ℕ → Run
stands c n t = record { cleared = c; next = n; table = t }

-- a refused portion ends the run where it stands; otherwise the run goes on from the next slot, and the counts are summed
abbrev pub goes_on : Outcome Portion → (ℕ → Run) → Run → Run
goes_on (Err n) further here = here
goes_on (Ok p) further here = stands (p.cleared + (further p.next).cleared) (further p.next).next (further p.next).table

-- one call for each k of the list, k may differ from call to call
unfoldable pub portions_run : ℕ → List ℕ → List ℕ → ℕ → List ℕ → Run
portions_run ingress l [] slot t = stands 0 slot t
portions_run ingress l (k ∷ ks) slot t =
    goes_on (portioned ingress l slot k t).answer (λ next. portions_run ingress l ks next (portioned ingress l slot k t).table) (stands 0 slot t)

-- the sum of the list
unfoldable pub total : List ℕ → ℕ
total [] = 0
total (k ∷ ks) = k + total ks
