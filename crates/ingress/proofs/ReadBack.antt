-- The worked frame read back by the far port, by computation.
-- Assumes nothing.
use mathlib.Core.Path.{◌≡◌, refl}
use Rattle.numbers.specs.Tests.{pick, both, either, any_of, between}
use Rattle.numbers.specs.Result.{check, and_then, settled}
use Rattle.numbers.specs.Bytes.{num, bytes_of, starts_with, laid, parts, parts_from}
use Rattle.numbers.specs.Ranges.{individual, nickname_good, vlan_good}
use Rattle.table.specs.Record.{marked_slot, label_from, entry_of, entry_good, held, slot_of, unpacked, record_number, packed, entry_matches}
use Rattle.table.specs.Slots.{table_good, on_slots, first_slot, lowest}
use Rattle.table.specs.Table.{holds, holds_configured, holds_learned, holds_unmarked, holds_marked, place_of}
use Rattle.table.specs.Learning.{rival_of, cleared_pair, room_for, judged_at, free_slot, into_free, judged, learnt}
use Rattle.frame.specs.Settings.{addresses_good, seconds_good, numbers_good, later_good, settings_good}
use Rattle.frame.specs.Front.{trill_group, control_address, reserved_group, front_refused, front_of}
use Rattle.frame.specs.Header.{header_length}
use Rattle.frame.specs.Labels.{label_length, label_read}
use Rattle.frame.specs.Formats.{outer_length, general_after, general, frame_length_good, by_front, parsed}
use Rattle.port_map.specs.Maps.{pair_of, pairs_in, good_once, pairs_good, map_good, vlan_for}
use Rattle.receive.specs.Deciding.{is_marked, ingress_allowed, nicknames_good, is_onward}
use Rattle.receive.specs.Delivering.{tag_word, tagged_bytes, stays, native_out}
use Rattle.receive.specs.Receive.{learned_entry, taught, delivery, acted, reading, received_with, port_received}
use Rattle.receive.specs.Words.{read_word}
use Rattle.ingress.specs.Cases.{native_with, read_back}

pub read_back_lem : (read_word read_back.answer ≡ 0xABCD_EF01_0000_1441) × (read_back.out ≡ native_with 0x60)
unfolding pick both either any_of between check and_then settled num bytes_of starts_with laid parts parts_from individual nickname_good vlan_good marked_slot label_from entry_of entry_good held slot_of unpacked record_number packed entry_matches table_good on_slots first_slot lowest holds holds_configured holds_learned holds_unmarked holds_marked place_of rival_of cleared_pair room_for judged_at free_slot into_free judged learnt addresses_good seconds_good numbers_good later_good settings_good trill_group control_address reserved_group front_refused front_of header_length label_length label_read outer_length general_after general frame_length_good by_front parsed pair_of pairs_in good_once pairs_good map_good vlan_for is_marked ingress_allowed nicknames_good is_onward tag_word tagged_bytes stays native_out learned_entry taught delivery acted reading received_with port_received
read_back_lem = (refl, refl)
