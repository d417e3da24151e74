-- The cases hold: those about bytes by computation, those about every label number by the laws of blocks and maps.
-- Assumes nothing.
use Prim.Native.Nat.{ℕ, ◌<◌}
use mathlib.Core.Bool.{true}
use mathlib.Core.List.{List, [], ◌∷◌, ◌++◌}
use mathlib.Core.Path.{◌≡◌, refl, sym, ap, ◌∙◌}
use native.Mathlib.Decide.{ℕ_discrete, dec_lt}
use native.Mathlib.Omega.{arith}
use Rattle.numbers.specs.Tests.{pick, both, either, any_of, between}
use Rattle.numbers.specs.Result.{check, and_then, settled}
use Rattle.numbers.specs.Bytes.{num, bytes_of, starts_with, laid, parts_from, parts}
use Rattle.numbers.specs.Ranges.{individual, nickname_good, vlan_good}
use Rattle.numbers.specs.Numberings.{vlans, fines, number_of, at_least, at_most, start_of, end_of, in_block, filled, in_blocks, some_filled, in_list, bit_of, bit_at, in_map}
use Rattle.numbers.proofs.Truth.{between_in, between_below, between_above, between_none, either_none}
use Rattle.numbers.proofs.Widths.{maps_hold}
use Rattle.table.specs.Record.{marked_slot, label_from, entry_of, entry_good, held, slot_of, unpacked, record_number, packed}
use Rattle.table.specs.Slots.{table_good, on_slots, count_slots}
use Rattle.table.specs.declared.Label.{Label}
use Rattle.table.specs.declared.Label.TheVariants.{Vlan, Fine}
use Rattle.flush.specs.Payload.{every_type, tlv, block, tlvs_from, tlvs, length_good, corrupt, pieces_of, payload_of}
use Rattle.flush.specs.Meaning.{nickname_meant, vlan_in, fine_in, mac_in, some_mac_in, brings_label, brings_mac, gathers_mac, label_meant, mac_meant, entry_meant}
use Rattle.flush.specs.Flush.{slot_meant, cleared_slot, cleared_by, clearing, flushed}
use Rattle.frame.specs.Settings.{addresses_good, seconds_good, numbers_good, later_good, settings_good}
use Rattle.frame.specs.Front.{trill_group, control_address, reserved_group, front_refused, front_of}
use Rattle.frame.specs.Header.{header_length}
use Rattle.frame.specs.Labels.{label_length}
use Rattle.frame.specs.Formats.{outer_length, general_after, general, frame_length_good}
use Rattle.convert.specs.Compaction.{compact_bytes, stays_general, general_only, general_fields, compacting, written, compacted}
use Rattle.promises.specs.Cases.{Case, Holds, AllHold, records, p1, p1_entry, flush_cases, meaning_cases, compaction_cases, vlans_from, fines_from, no_label, Cases, ControlCases}

p1-holds : Holds (records p1 p1_entry)
unfolding pick both between num bytes_of individual nickname_good vlan_good label_from entry_of entry_good held slot_of marked_slot unpacked record_number packed
p1-holds = (refl, refl)

flushes_hold : AllHold flush_cases
unfolding pick both either any_of between check and_then settled num bytes_of parts_from parts individual nickname_good vlan_good number_of at_least at_most start_of end_of in_block filled in_blocks some_filled in_list bit_of bit_at in_map label_from entry_of entry_good held slot_of marked_slot unpacked table_good on_slots count_slots tlvs_from tlvs length_good corrupt pieces_of payload_of nickname_meant vlan_in fine_in mac_in some_mac_in brings_label brings_mac gathers_mac label_meant mac_meant entry_meant slot_meant cleared_slot cleared_by clearing flushed
flushes_hold = (refl, (refl, (refl, (refl, (refl, (refl, (refl, tt)))))))

-- a VLAN block, by itself and as the one block of a TLV of type 1
block_means : (b : List ℕ) (low high : ℕ) → start_of vlans b ≡ low → end_of vlans b ≡ high → (l : Label) → brings_label every_type l (block b) ≡ vlans_from low high l
unfolding brings_label in_block
block_means b low high s e (Vlan x) = rw (s, e)
block_means b low high s e (Fine x) = refl

type_1_means : (b : List ℕ) (low high : ℕ) → parts 4 b ≡ b ∷ [] → start_of vlans b ≡ low → end_of vlans b ≡ high → (l : Label) → brings_label every_type l (tlv 1 b) ≡ vlans_from low high l
unfolding brings_label both pick any_of vlan_in fine_in in_blocks in_block
type_1_means b low high one s e (Vlan x) = rw (one, s, e) (either_none (between low high x))
type_1_means b low high one s e (Fine x) = refl

no_vlan : (low high : ℕ) → high < low → (l : Label) → vlans_from low high l ≡ no_label l
no_vlan low high h (Vlan x) = between_none low high x h
no_vlan low high h (Fine x) = refl

-- a map whose first two numbers are the last two labels and have their bits set: what lies before and behind is not in it
map_means : (v : List ℕ) → number_of fines v ≡ 0xFFFFFE → in_map fines 0xFFFFFE v ≡ true → in_map fines 0xFFFFFF v ≡ true
    → (l : Label) → brings_label every_type l (tlv 5 v) ≡ fines_from 0xFFFFFE 0xFFFFFF l
unfolding brings_label both pick vlan_in fine_in
map_means v s a b (Vlan x) = refl
map_means v s a b (Fine x) = go (dec_lt x 0xFFFFFE) (dec_lt 0xFFFFFF x) (ℕ_discrete x 0xFFFFFE)
  where
    go : Dec (x < 0xFFFFFE) → Dec (0xFFFFFF < x) → Dec (x ≡ 0xFFFFFE) → in_map fines x v ≡ between 0xFFFFFE 0xFFFFFF x
    go (yes h) d e = (maps_hold.at_24 v).none_before x (omega arith) ∙ sym (between_below 0xFFFFFE 0xFFFFFF x h)
    go (no h) (yes k) e = (maps_hold.at_24 v).none_high x k ∙ sym (between_above 0xFFFFFE 0xFFFFFF x k)
    go (no h) (no k) (yes e) = ap (λ n. in_map fines n v) e ∙ a ∙ sym (between_in 0xFFFFFE 0xFFFFFF x (omega arith) (omega arith))
    go (no h) (no k) (no e) =
        let q : x ≡ 0xFFFFFF = omega arith in
        ap (λ n. in_map fines n v) q ∙ b ∙ sym (between_in 0xFFFFFE 0xFFFFFF x (omega arith) (omega arith))

meanings_hold : AllHold meaning_cases
unfolding pick both between num parts_from parts number_of at_least at_most start_of end_of bit_of bit_at in_map
meanings_hold = (
  block_means _ 1 0xFFE refl refl,
  (
    type_1_means _ 1 0xFFE refl refl refl,
    (
      (λ l. block_means _ 11 10 refl refl l ∙ no_vlan 11 10 (omega arith) l),
      (
        (λ l. type_1_means _ 11 10 refl refl refl l ∙ no_vlan 11 10 (omega arith) l),
        (map_means _ refl refl refl, (map_means _ refl refl refl, tt)),
      ),
    ),
  ),
)

compactions_hold : AllHold compaction_cases
unfolding pick both either between check and_then settled num bytes_of starts_with laid individual nickname_good vlan_good addresses_good seconds_good numbers_good later_good settings_good trill_group control_address reserved_group front_refused front_of header_length label_length outer_length general_after general frame_length_good compact_bytes stays_general general_only general_fields compacting written compacted
compactions_hold = (refl, (refl, tt))

pub control_cases : ControlCases
unfolding pick both either between check and_then settled num bytes_of starts_with laid individual nickname_good vlan_good addresses_good seconds_good numbers_good later_good settings_good trill_group control_address reserved_group front_refused front_of header_length label_length outer_length general_after general frame_length_good compact_bytes stays_general general_only general_fields compacting written compacted
control_cases = (refl, (refl, (refl, (refl, (refl, (refl, tt))))))

all_append : (xs ys : List Case) → AllHold xs → AllHold ys → AllHold (xs ++ ys)
all_append [] ys h k = k
all_append (c ∷ cs) ys h k = (h.0, all_append cs ys h.1 k)

pub cases_hold : Cases
cases_hold = (
  p1-holds,
  all_append flush_cases (meaning_cases ++ compaction_cases) flushes_hold (all_append meaning_cases compaction_cases meanings_hold compactions_hold),
)
