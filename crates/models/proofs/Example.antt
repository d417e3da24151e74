-- The example holds by computation.
-- Assumes nothing.
use mathlib.Core.Path.{refl}
use Rattle.numbers.specs.Tests.{pick, both, either, any_of, between}
use Rattle.numbers.specs.Result.{check, and_then, settled}
use Rattle.numbers.specs.Bytes.{num, bytes_of, parts_from, parts}
use Rattle.numbers.specs.Ranges.{individual, nickname_good, vlan_good}
use Rattle.numbers.specs.Numberings.{number_of, at_least, at_most, start_of, end_of, in_block, filled, in_blocks, some_filled, in_list, bit_of, bit_at, in_map}
use Rattle.table.specs.Record.{label_from, entry_of, entry_good, held, slot_of, marked_slot, unpacked, record_number, packed}
use Rattle.table.specs.Slots.{table_good, on_slots, count_slots}
use Rattle.flush.specs.Payload.{tlvs_from, tlvs, length_good, corrupt, pieces_of, payload_of}
use Rattle.flush.specs.Meaning.{nickname_meant, vlan_in, fine_in, mac_in, some_mac_in, brings_label, brings_mac, gathers_mac, label_meant, mac_meant, entry_meant}
use Rattle.flush.specs.Flush.{slot_meant, cleared_slot, cleared_by, clearing, flushed}
use Rattle.models.specs.Models.{flushed_by}
use Rattle.models.specs.Example.{NotPromised}

pub not_promised : NotPromised
unfolding pick both either any_of between check and_then settled num bytes_of parts_from parts individual nickname_good vlan_good number_of at_least at_most start_of end_of in_block filled in_blocks some_filled in_list bit_of bit_at in_map label_from entry_of entry_good held slot_of marked_slot unpacked table_good on_slots count_slots tlvs_from tlvs length_good corrupt pieces_of payload_of nickname_meant vlan_in fine_in mac_in some_mac_in brings_label brings_mac gathers_mac label_meant mac_meant entry_meant slot_meant cleared_slot cleared_by clearing flushed flushed_by record_number packed
not_promised = record { full = refl; small = refl; full_fine = refl; small_fine = refl }
