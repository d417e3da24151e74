-- The worked instance holds: both runs by computation, the replaced frame by computation but for the length of the working area.
-- Assumes nothing.
use Prim.Native.Nat.{ℕ}
use native.Mathlib.Omega.{arith}
use mathlib.Core.Bool.{true}
use mathlib.Core.List.{List, [], ◌∷◌}
use mathlib.Core.Path.{◌≡◌, refl, ap}
use lib.ListN.{length, length-replicate}
use Rattle.numbers.specs.Tests.{pick, both, either, any_of, between}
use Rattle.numbers.specs.Result.{check, and_then, settled}
use Rattle.numbers.specs.Bytes.{num, bytes_of, starts_with, laid, parts, parts_from}
use Rattle.numbers.specs.Ranges.{individual, nickname_good, vlan_good}
use Rattle.table.specs.Record.{marked_slot, label_from, entry_of, entry_good, held, slot_of, unpacked, record_number, packed, entry_matches}
use Rattle.table.specs.Slots.{freed, table_good, on_slots, first_slot, lowest}
use Rattle.table.specs.Table.{holds, holds_configured, holds_learned, holds_unmarked, holds_marked, place_of, nickname_at, looked_up, aged_slot, aged, spoilt_slot, spoilt_at, lowest_spoilt}
use Rattle.table.specs.Learning.{rival_of, cleared_pair, room_for, judged_at, free_slot, into_free, judged, learnt}
use Rattle.frame.specs.Settings.{addresses_good, seconds_good, numbers_good, later_good, settings_good}
use Rattle.frame.specs.Front.{trill_group, control_address, reserved_group, front_refused, front_of}
use Rattle.frame.specs.Header.{header_length}
use Rattle.frame.specs.Labels.{label_length, label_read}
use Rattle.frame.specs.Fields.{native_bytes}
use Rattle.frame.specs.Formats.{outer_length, general_after, general, compact_after, compact, frame_length_good, by_front, parsed}
use Rattle.convert.specs.Compaction.{compact_bytes, stays_general, general_only, general_fields, compacting, compacted}
use Rattle.convert.specs.Claims.{converted}
use Rattle.convert.proofs.Areas.{writes}
use Rattle.receive.specs.Deciding.{is_marked, ingress_allowed, nicknames_good, is_onward}
use Rattle.port_map.specs.Maps.{pairs_in, good_once, pairs_good, map_good}
use Rattle.receive.specs.Delivering.{stays, native_out}
use Rattle.receive.specs.Receive.{learned_entry, taught, delivery, acted, reading, received_with}
use Rattle.promises.specs.Cases.{far_port, p10_compact}
use Rattle.promises.specs.Interchange.{Call, read, age, lookup, spoilt, portion, called_with, run_with, run, working_area, frame_or, compacted_call, compacted_where}
use Rattle.promises.specs.Example.{p10_frame, out_before, later, general_calls, compact_calls, seen, InterchangeExample}
use Rattle.std.specs.Prelude.{Ok}

area-length : length working_area ≡ 9204
unfolding working_area
area-length = length-replicate {A = ℕ} 9204 0

p10-compacting : compacting far_port p10_frame ≡ Ok p10_compact
unfolding pick both either between check and_then num starts_with individual nickname_good vlan_good addresses_good seconds_good numbers_good later_good settings_good trill_group control_address reserved_group front_refused front_of header_length label_length outer_length general_after general frame_length_good compact_bytes stays_general general_only general_fields compacting
p10-compacting = refl

p10-converted : converted (compacted far_port p10_frame working_area) ≡ Ok p10_compact
unfolding compacted
p10-converted = writes (compacting far_port p10_frame) working_area p10_compact p10-compacting (omega (arith, area-length))

replaced : compacted_where far_port (true ∷ []) general_calls ≡ compact_calls
unfolding compacted_where compacted_call pick
replaced = ap (λ r. read [] (frame_or p10_frame r) out_before ∷ later) p10-converted

both_run : (run far_port freed general_calls ≡ seen) × (run far_port freed compact_calls ≡ seen)
unfolding pick both either any_of between check and_then settled num bytes_of starts_with laid individual nickname_good vlan_good label_from entry_of entry_good held slot_of marked_slot unpacked record_number packed entry_matches table_good on_slots first_slot lowest holds place_of nickname_at looked_up aged_slot aged spoilt_slot spoilt_at lowest_spoilt holds_configured holds_learned holds_unmarked holds_marked rival_of cleared_pair room_for judged_at free_slot into_free judged learnt is_marked addresses_good seconds_good numbers_good later_good settings_good trill_group control_address reserved_group front_refused front_of header_length label_length label_read native_bytes outer_length general_after general compact_after compact frame_length_good by_front parsed parts parts_from pairs_in good_once pairs_good map_good ingress_allowed nicknames_good is_onward learned_entry taught stays native_out delivery acted reading received_with called_with run_with run
both_run = (refl, refl)

-- the first frames have 40 and 28 bytes
abbrev first_length : List Call → ℕ
first_length [] = 0
first_length (read m f o ∷ cs) = length f
first_length (age n ∷ cs) = 0
first_length (lookup kind x m ∷ cs) = 0
first_length (spoilt ∷ cs) = 0
first_length (portion ingress l slot k ∷ cs) = 0

pub example_holds : InterchangeExample
example_holds = record {
  replaced = replaced;
  differ = λ e. let z : ◌≡◌ {A = ℕ} 40 28 = ap first_length e in omega arith;
  general = both_run.0;
  compact = both_run.1;
}
