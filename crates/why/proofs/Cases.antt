-- The worked cases hold by computation.
-- Assumes nothing.
use mathlib.Core.Path.{refl}
use Rattle.numbers.specs.Tests.{pick, both, either, any_of, between}
use Rattle.numbers.specs.Result.{check, and_then, settled}
use Rattle.numbers.specs.Bytes.{num, bytes_of, parts_from, parts}
use Rattle.numbers.specs.Ranges.{individual, nickname_good, vlan_good}
use Rattle.numbers.specs.Numberings.{number_of, at_least, at_most, start_of, end_of, in_block, filled, in_blocks, some_filled, in_list, bit_of, bit_at, in_map}
use Rattle.table.specs.Record.{marked_slot, label_from, entry_of, entry_good, held, slot_of, unpacked}
use Rattle.table.specs.Slots.{table_good}
use Rattle.flush.specs.Payload.{tlvs_from, tlvs, length_good, corrupt, pieces_of, payload_of}
use Rattle.flush.specs.Meaning.{nickname_meant, vlan_in, fine_in, mac_in, some_mac_in, brings_label, brings_mac, gathers_mac, label_meant, mac_meant}
use Rattle.why.specs.Why.{place_of, nickname_match, label_match, mac_match, learned_reason, why}
use Rattle.why.specs.Cases.{WhyCases}

pub why_cases : WhyCases
unfolding pick both either any_of between check and_then settled num bytes_of parts_from parts individual nickname_good vlan_good number_of at_least at_most start_of end_of in_block filled in_blocks some_filled in_list bit_of bit_at in_map label_from entry_of entry_good held slot_of marked_slot unpacked table_good tlvs_from tlvs length_good corrupt pieces_of payload_of nickname_meant vlan_in fine_in mac_in some_mac_in brings_label brings_mac gathers_mac label_meant mac_meant place_of nickname_match label_match mac_match learned_reason why
why_cases = refl
