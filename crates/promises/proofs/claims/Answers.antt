-- What `promises::claims` ensures is proved in the modules beside and in the crates below.
use Rattle.numbers.proofs.Widths.{blocks_hold, maps_hold}
use Rattle.table.proofs.Packing.{unpack_packed, pack_unpacked}
use Rattle.table.proofs.Apart.{learning_apart}
use Rattle.table.proofs.Ageing.{ageing_apart}
use Rattle.table.proofs.Stays.{learning_leaves_alone, ageing_leaves_alone}
use Rattle.table.proofs.Refusals.{kept_writes_nothing, ageing_refusal}
use Rattle.table.proofs.Widening.{widened_same, widening_refusal}
use Rattle.table.proofs.Before.{unmarked_as_before}
use Rattle.table.proofs.Examples.{homes_examples}
use Rattle.table.proofs.FreeSlot.{free_slot-found}
use Rattle.flush.proofs.Validity.{validity}
use Rattle.flush.proofs.Flushing.{flush_exact, flushing_keeps_apart, flush_refusal}
use Rattle.flush.proofs.Padding.{padded_flush}
use Rattle.flush.proofs.Stays.{flushing_leaves_alone}
use Rattle.portions.proofs.Portions.{portion_exact, portion_refusal}
use Rattle.portions.proofs.Runs.{portions_whole, portions_reach, portions_end}
use Rattle.portions.proofs.Keeping.{portion_keeps_apart, portion_leaves_alone}
use Rattle.portions.proofs.Between.{later, passed}
use Rattle.flush_write.proofs.Exact.{writer_exact}
use Rattle.flush_write.proofs.Clears.{writer_clears}
use Rattle.flush_write.proofs.Bounds.{writer_length}
use Rattle.flush_write.proofs.Calls.{writer_calls}
use Rattle.flush_write.proofs.Worked.{writer_cases}
use Rattle.models.proofs.Models.{full_model, vlan_only}
use Rattle.models.proofs.Example.{not_promised}
use Rattle.why.proofs.Calls.{why_exact, why_first, why_places, why_refusals}
use Rattle.why.proofs.Cases.{why_cases}
use Rattle.frame.proofs.Local.{header_local, label_local, labels_good}
use Rattle.convert.proofs.Areas.{convert_refusals}
use Rattle.convert.proofs.Compacting.{reads_same}
use Rattle.convert.proofs.Expanding.{expand_compacted, compact-expanded, control_never_compact}
use Rattle.convert.proofs.Room.{room_for_compaction, send_room}
use Rattle.convert.proofs.Sending.{sends_exactly}
use Rattle.convert.proofs.Shown.{chosen-sent}
use Rattle.receive.proofs.Outcomes.{read_refusal, reading-apart, reads_parsed, reading_leaves_alone, read_flush_exact}
use Rattle.port_map.proofs.Searches.{search_inverse}
use Rattle.port_map_pairs.proofs.Bytes.{holds as pair_bytes_lem}
use Rattle.receive.proofs.NoMap.{no_map_no_change}
use Rattle.receive.proofs.Smart.{smart_port}
use Rattle.receive.proofs.Padded.{padded_read}
use Rattle.receive.proofs.Order.{reads_exactly}
use Rattle.watch.proofs.Stops.{stop_never_shortened, stop_runs_out, watch_cases}
use Rattle.watch.proofs.Sends.{sending_while_stopped, refused_watch_stays}
use Rattle.ingress.proofs.Worked.{map_cases, ingress_refusal}
use Rattle.ingress.proofs.Trip.{map_round_trip}
use Rattle.report.proofs.Sums.{report_adds_up, report_fits}
use Rattle.report.proofs.Lines.{report_rising}
use Rattle.report.proofs.Case.{report_case}
use Rattle.report.proofs.Digits.{digits_read_back}
use Rattle.promises.specs.Claims.{RefusalChangesNothing, HomesStayApart, SpoiltStays, ConfiguredStays}
use Rattle.hello.proofs.Worked as worked
use Rattle.hello.proofs.RoundTrip.{written_hello_reads}
use Rattle.hello.proofs.Bounds.{read_is_writable}
use Rattle.hello.proofs.Saying.{read_hello_writes}
use Rattle.hello.proofs.Written.{written_are_bytes}
use Rattle.hello.proofs.Exact.{written_is_plain}
use Rattle.hello.proofs.Areas.{area_is}
use Rattle.hello.proofs.Calls.{calls_undo, hello_refusal}
use Rattle.hello_area.proofs.Whole.{entries_are}
use Rattle.promises.proofs.Cases.{cases_hold, control_cases}
use Rattle.promises.proofs.Example.{example_holds}
use Rattle.promises.proofs.Homes.{none_as_before, marked_read}
use Rattle.promises.proofs.Interchange.{interchange}
use Rattle.promises.proofs.Lives.{life_as_before, other_lives_stay}
use Rattle.promises.proofs.Reports.{report_refusal}
use Rattle.promises.proofs.claims.Goals as goal

refusals : RefusalChangesNothing
refusals = record { reading = read_refusal; flushing = flush_refusal; portion = portion_refusal; ageing = ageing_refusal; widening = widening_refusal; converting = convert_refusals; ingress = ingress_refusal; reporting = report_refusal }

homes : HomesStayApart
homes = record { reading = reading-apart; flushing = flushing_keeps_apart; portion = portion_keeps_apart; ageing = ageing_apart }

stays-spoilt : SpoiltStays
stays-spoilt = record {
  reading = λ s m f t o. (reading_leaves_alone s m f t o).spoilt;
  flushing = λ ingress l t. (flushing_leaves_alone ingress l t).spoilt;
  portion = λ ingress l slot k t. (portion_leaves_alone ingress l slot k t).spoilt;
  ageing = λ s t. (ageing_leaves_alone s t).spoilt;
}

stays-configured : ConfiguredStays
stays-configured = record {
  reading = λ s m f t o. (reading_leaves_alone s m f t o).configured;
  flushing = λ ingress l t. (flushing_leaves_alone ingress l t).configured;
  portion = λ ingress l slot k t. (portion_leaves_alone ingress l slot k t).configured;
  ageing = λ s t. (ageing_leaves_alone s t).configured;
}

pub returns : goal.returns
returns c = record {
  demands = (interchange, example_holds, expand_compacted, compact-expanded, refusals, validity, flush_exact, read_flush_exact, padded_flush, padded_read, reads_exactly, homes, widened_same, unmarked_as_before, none_as_before, homes_examples, marked_read, free_slot-found, stays-spoilt, stays-configured, sends_exactly, room_for_compaction, send_room, chosen-sent, control_never_compact, life_as_before, other_lives_stay, search_inverse, no_map_no_change, map_round_trip, smart_port, cases_hold, control_cases, map_cases);
  calls = (read_refusal, flush_refusal, ageing_refusal, widening_refusal, convert_refusals, ingress_refusal, reading-apart, flushing_keeps_apart, ageing_apart, learning_apart, reading_leaves_alone, flushing_leaves_alone, ageing_leaves_alone, learning_leaves_alone);
  portions = (portion_exact, portions_whole, portions_reach, portions_end, later, passed, portion_refusal, portion_keeps_apart, portion_leaves_alone);
  models = (full_model, vlan_only, not_promised);
  reasons = (why_exact, why_first, why_places, why_refusals, why_cases);
  laws = (blocks_hold, maps_hold, unpack_packed, pack_unpacked, kept_writes_nothing, header_local, label_local, labels_good, reads_same, reads_parsed);
  writing = (writer_exact, writer_clears, writer_length, writer_calls, writer_cases);
  reporting = (report_adds_up, report_rising, report_case, digits_read_back, report_fits);
  watching = (stop_never_shortened, stop_runs_out, sending_while_stopped, refused_watch_stays, watch_cases);
  hellos = (written_hello_reads, read_hello_writes, read_is_writable, written_are_bytes, written_is_plain, area_is, calls_undo, hello_refusal, entries_are, worked.cases_hold);
  pairs = pair_bytes_lem;
}
