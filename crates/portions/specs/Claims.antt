-- What holds of a flush in portions.
-- Assumes nothing.
use Rattle.std.specs.Prelude.{ℕ, zero, suc, ◌+◌, ◌-◌, ◌*◌, ◌/◌, ◌<◌, ◌≤◌, true, false, ◌≡◌, length, take, drop, replicate, Ok, Err}
use mathlib.Core.List.{List, Memᴰ}
use Rattle.numbers.specs.Tests.{pick, both}
use Rattle.numbers.specs.After.{on_table}
use Rattle.table.specs.Record.{unpacked, is_free, is_learned}
use Rattle.table.specs.Slots.{slot_bytes, table_good, slots_of, slot_at}
use Rattle.table.specs.Claims.{Apart, LeavesAlone}
use Rattle.flush.specs.Payload.{every_type, Payload, payload_of}
use Rattle.flush.specs.Flush.{flushed}
use Rattle.flush.specs.Claims.{SlotFacts}
use Rattle.portions.specs.Portion.{portion_steps, portioned, portions_run, total}
use Rattle.numbers.specs.declared.refusals.Refusal.TheVariants.{TableLengthBad, PortionBad}
use Rattle.numbers.specs.declared.refusals.Refusal.{Refusal}

-- how many of m slots from the slot on are learned in t and free in u
unfoldable pub freed_from : ℕ → ℕ → List ℕ → List ℕ → ℕ
freed_from slot zero t u = 0
freed_from slot (suc m) t u =
    freed_from slot m t u + pick (both (is_learned (unpacked (slot_at (slot + m) t))) (is_free (unpacked (slot_at (slot + m) u)))) 1 0

-- no byte outside the m slots from the slot on has changed
pub record PassedStays (slot m : ℕ) (t u : List ℕ) : Type 0 where
  pub same_length : length u ≡ length t
  pub before : take (slot_bytes * slot) u ≡ take (slot_bytes * slot) t
  pub behind : drop (slot_bytes * (slot + m)) u ≡ drop (slot_bytes * (slot + m)) t

-- a portion of m slots leaves the table u
pub record PortionFacts (p : Payload) (ingress : ℕ) (l : List ℕ) (slot m : ℕ) (t u : List ℕ) : Type 0 where
  -- a slot of the portion: cleared exactly if learned and meant
  pub each : (j : ℕ) → slot ≤ j → j < slot + m → SlotFacts p ingress t u j
  -- it is what the whole flush makes of it in this very table
  pub as_whole : (j : ℕ) → slot ≤ j → j < slot + m → slot_at j u ≡ slot_at j (flushed ingress l t).table
  pub passed : PassedStays slot m t u

pub record PortionExact : Type 0 where
  -- the smaller of k and the slots left
  pub steps_k : (slot k n : ℕ) → k ≤ n - slot → portion_steps slot k n ≡ k
  pub steps_left : (slot k n : ℕ) → n - slot ≤ k → portion_steps slot k n ≡ n - slot
  pub facts : (ingress : ℕ) (l : List ℕ) (slot k : ℕ) (t : List ℕ) (p : Payload) → table_good t ≡ true → 0 < k → slot < slots_of t → payload_of every_type l ≡ Ok p
      → PortionFacts p ingress l slot (portion_steps slot k (slots_of t)) t (portioned ingress l slot k t).table
  pub answer : (ingress : ℕ) (l : List ℕ) (slot k : ℕ) (t : List ℕ) (p : Payload) → table_good t ≡ true → 0 < k → slot < slots_of t → payload_of every_type l ≡ Ok p
      → (portioned ingress l slot k t).answer
      ≡ Ok (record {
        cleared = freed_from slot (portion_steps slot k (slots_of t)) t (portioned ingress l slot k t).table;
        next = slot + portion_steps slot k (slots_of t);
        examined = portion_steps slot k (slots_of t);
      })
  -- 2, then 24, then 15
  pub bad_table : (ingress : ℕ) (l : List ℕ) (slot k : ℕ) (t : List ℕ) → table_good t ≡ false → portioned ingress l slot k t ≡ on_table (Err TableLengthBad) t
  pub none : (ingress : ℕ) (l : List ℕ) (slot : ℕ) (t : List ℕ) → table_good t ≡ true → portioned ingress l slot 0 t ≡ on_table (Err PortionBad) t
  pub past : (ingress : ℕ) (l : List ℕ) (slot k : ℕ) (t : List ℕ) → table_good t ≡ true → slots_of t ≤ slot → portioned ingress l slot k t ≡ on_table (Err PortionBad) t
  pub corrupt : (ingress : ℕ) (l : List ℕ) (slot k : ℕ) (t : List ℕ) (n : Refusal) → table_good t ≡ true → 0 < k → slot < slots_of t → payload_of every_type l ≡ Err n
      → portioned ingress l slot k t ≡ on_table (Err n) t

-- demand 1, for the call: a refusal changes nothing
abbrev pub PortionRefusal : Type 0
PortionRefusal = (ingress : ℕ) (l : List ℕ) (slot k : ℕ) (t : List ℕ) (n : Refusal) → (portioned ingress l slot k t).answer ≡ Err n → (portioned ingress l slot k t).table ≡ t

-- "the end and the summed cleared counts are those of the whole flush", for every list of k that reaches the end
pub record WholeFlush (ingress : ℕ) (l ks t : List ℕ) : Type 0 where
  pub table : (portions_run ingress l ks 0 t).table ≡ (flushed ingress l t).table
  pub count : (flushed ingress l t).answer ≡ Ok (portions_run ingress l ks 0 t).cleared

abbrev pub PortionsWhole : Type 0
PortionsWhole =
    (ingress : ℕ) (l ks t : List ℕ) (p : Payload) → table_good t ≡ true → payload_of every_type l ≡ Ok p → (portions_run ingress l ks 0 t).next ≡ slots_of t → WholeFlush ingress l ks t

-- positive ks reach the end exactly if their sum does; before, the run stands at their sum
pub record Reaches (ingress : ℕ) (l ks t : List ℕ) : Type 0 where
  pub end : slots_of t ≤ total ks → (portions_run ingress l ks 0 t).next ≡ slots_of t
  pub short : total ks ≤ slots_of t → (portions_run ingress l ks 0 t).next ≡ total ks

abbrev pub Positive : List ℕ → Type 0
Positive ks = (k : ℕ) → Memᴰ k ks → 0 < k

abbrev pub PortionsReach : Type 0
PortionsReach = (ingress : ℕ) (l ks t : List ℕ) (p : Payload) → table_good t ≡ true → payload_of every_type l ≡ Ok p → Positive ks → Reaches ingress l ks t

-- n divided by k, rounded up
abbrev pub calls : ℕ → ℕ → ℕ
calls n k = (n + (k - 1)) / k

-- with one k: done after that many calls, and not before
pub record Ends (ingress : ℕ) (l : List ℕ) (k : ℕ) (t : List ℕ) : Type 0 where
  pub done : (portions_run ingress l (replicate (calls (slots_of t) k) k) 0 t).next ≡ slots_of t
  pub not_before : (c : ℕ) → c < calls (slots_of t) k → (portions_run ingress l (replicate c k) 0 t).next < slots_of t

abbrev pub PortionsEnd : Type 0
PortionsEnd = (ingress : ℕ) (l : List ℕ) (k : ℕ) (t : List ℕ) (p : Payload) → table_good t ≡ true → payload_of every_type l ≡ Ok p → 0 < k → Ends ingress l k t

-- "A table with .. no two equal (label, MAC, nickname) triples, and no unmarked learned record beside another .. stays so" (2026-12), under a
-- portion
abbrev pub PortionKeepsApart : Type 0
PortionKeepsApart = (ingress : ℕ) (l : List ℕ) (slot k : ℕ) (t : List ℕ) → Apart t → Apart (portioned ingress l slot k t).table

-- "only learned records are cleared": spoilt and configured ones keep their bytes
abbrev pub PortionLeavesAlone : Type 0
PortionLeavesAlone = (ingress : ℕ) (l : List ℕ) (slot k : ℕ) (t : List ℕ) → LeavesAlone t (portioned ingress l slot k t).table
