-- The frames that are marked, by computation; with the setting none no frame is.
-- Assumes nothing.
use Prim.Native.Nat.{ℕ}
use mathlib.Core.Bool.{false}
use mathlib.Core.Path.{◌≡◌, refl}
use Rattle.numbers.specs.Tests.{pick, both, either, any_of, between}
use Rattle.numbers.specs.Result.{check, and_then, settled}
use Rattle.numbers.specs.Bytes.{num, bytes_of, starts_with, laid, parts, parts_from}
use Rattle.numbers.specs.Ranges.{individual, nickname_good, vlan_good}
use Rattle.table.specs.Record.{marked_slot, label_from, entry_of, entry_good, held, slot_of, unpacked, record_number, packed, entry_matches}
use Rattle.table.specs.Slots.{table_good, on_slots, first_slot, lowest}
use Rattle.table.specs.Table.{holds, holds_configured, holds_learned, holds_unmarked, holds_marked}
use Rattle.table.specs.Learning.{rival_of, cleared_pair, room_for, judged_at, free_slot, into_free, judged, learnt}
use Rattle.table.proofs.Before.{learnt_before_lem}
use Rattle.frame.specs.Settings.{addresses_good, seconds_good, numbers_good, later_good, settings_good}
use Rattle.frame.specs.Front.{trill_group, control_address, reserved_group, front_refused, front_of}
use Rattle.frame.specs.Header.{header_length}
use Rattle.frame.specs.Labels.{label_length, label_read}
use Rattle.frame.specs.Fields.{Fields, native_bytes}
use Rattle.frame.specs.Formats.{compact_after, compact, frame_length_good, by_front, parsed}
use Rattle.frame.specs.declared.Settings.{Settings}
use Rattle.receive.specs.Deciding.{is_marked, ingress_allowed, nicknames_good, is_onward}
use Rattle.port_map.specs.Maps.{pairs_in, good_once, pairs_good, map_good}
use Rattle.receive.specs.Delivering.{stays, native_out}
use Rattle.receive.specs.Receive.{learned_entry, taught, delivery, acted, reading, received_with, port_received, received}
use Rattle.promises.specs.Homes.{NoneAsBefore, MarkedRead}

none_marked : (life : ℕ) (s : Settings) (p : Fields) → s.multihomed ≡ 0 → (learned_entry life s p).multihomed ≡ false
unfolding learned_entry is_marked both either
none_marked life s p none = rw none

pub none_as_before : NoneAsBefore
none_as_before life s p t none unique = learnt_before_lem (learned_entry life s p) (none_marked life s p none) t unique

pub marked_read : MarkedRead
unfolding pick both either any_of between check and_then settled num bytes_of starts_with laid individual nickname_good vlan_good label_from entry_of entry_good held slot_of marked_slot unpacked record_number packed entry_matches table_good on_slots first_slot lowest holds holds_configured holds_learned holds_unmarked holds_marked rival_of cleared_pair room_for judged_at free_slot into_free judged learnt is_marked addresses_good seconds_good numbers_good later_good settings_good trill_group control_address reserved_group front_refused front_of header_length label_length label_read native_bytes compact_after compact frame_length_good by_front parsed ingress_allowed nicknames_good is_onward learned_entry taught parts parts_from pairs_in good_once pairs_good map_good stays native_out delivery acted reading received_with port_received received
marked_read = record { first = refl; second = refl; not_first = refl; not_second = refl; none = refl; beyond = refl; beyond_number = refl }
