-- The demands that are about all calls together.
-- Assumes nothing.
use Rattle.std.specs.Prelude.{ℕ, List, ◌≡◌, Err}
use Rattle.table.specs.Table.{aged}
use Rattle.table.specs.Claims.{AgeingRefusal, WideningRefusal, AgeingKeepsApart, Stays, IsSpoilt, IsConfigured}
use Rattle.table.specs.declared.Slot.{Slot}
use Rattle.flush.specs.Flush.{flushed}
use Rattle.portions.specs.Portion.{portioned}
use Rattle.portions.specs.Claims.{PortionRefusal, PortionKeepsApart}
use Rattle.frame.specs.declared.Settings.{Settings}
use Rattle.receive.specs.Receive.{port_received}
use Rattle.flush.specs.Claims.{FlushRefusal, FlushingKeepsApart}
use Rattle.convert.specs.Claims.{ConvertRefusals}
use Rattle.receive.specs.Claims.{ReadRefusal, ReadingKeepsApart}
use Rattle.ingress.specs.Claims.{IngressRefusal}
use Rattle.report.specs.Report.{reported_to}
use Rattle.numbers.specs.declared.refusals.Refusal.{Refusal}

-- a report that is refused
abbrev pub ReportRefusal : Type 0
ReportRefusal = (t area : List ℕ) (n : Refusal) → (reported_to t area).answer ≡ Err n → (reported_to t area).area ≡ area

-- Demand 1: "A refusal returns its number and changes nothing: every lent area keeps its bytes." For every public call that is lent
-- an area to change: reading (with every map), flushing, whole or a portion, ageing, widening, compacting, expanding, sending, ingress, the report. Lookup and the naming of the lowest spoilt slot are
-- lent the table for reading only.
pub record RefusalChangesNothing : Type 0 where
  pub reading : ReadRefusal
  pub flushing : FlushRefusal
  pub portion : PortionRefusal
  pub ageing : AgeingRefusal
  pub widening : WideningRefusal
  pub converting : ConvertRefusals
  pub ingress : IngressRefusal
  pub reporting : ReportRefusal

-- "A table with, among its learned and configured records, no two equal (label, MAC, nickname) triples, and no unmarked learned record
-- beside another of its label and MAC, stays so" (2026-12), under every call that is lent the table to change and for all settings
pub record HomesStayApart : Type 0 where
  pub reading : ReadingKeepsApart
  pub flushing : FlushingKeepsApart
  pub portion : PortionKeepsApart
  pub ageing : AgeingKeepsApart

-- slot by slot, a record of such a kind keeps its bytes under every call that is lent the table to change
pub record StaysUnderCalls (Such : Slot → Type 0) : Type 0 where
  pub reading : (s : Settings) (m f t o : List ℕ) → Stays Such t (port_received s m f t o).table
  pub flushing : (ingress : ℕ) (l t : List ℕ) → Stays Such t (flushed ingress l t).table
  pub portion : (ingress : ℕ) (l : List ℕ) (slot k : ℕ) (t : List ℕ) → Stays Such t (portioned ingress l slot k t).table
  pub ageing : (s : ℕ) (t : List ℕ) → Stays Such t (aged s t).table

-- "Spoilt records are neither free, learned nor configured, match nothing, and are never changed"
abbrev pub SpoiltStays : Type 0
SpoiltStays = StaysUnderCalls IsSpoilt

-- "Configured: kept", learned records age, and a flush clears learned records: nothing changes a configured one
abbrev pub ConfiguredStays : Type 0
ConfiguredStays = StaysUnderCalls IsConfigured
