-- Whether a slot is meant, by a message's pieces and by which kinds of TLVs were noted of it: what was not noted is not looked for.
-- Assumes nothing.
use Rattle.std.specs.Prelude.{ℕ, ◌≤◌, Bool, true, not, List, ◌≡◌, eqb, length}
use Rattle.numbers.specs.Tests.{pick, both, either}
use Rattle.table.specs.Record.{record_of, kind_of, label_of, mac_of, nickname_of, vlan_kind, label_from, unpacked, is_learned}
use Rattle.table.specs.Slots.{on_slots, count_slots}
use Rattle.flush.specs.Payload.{every_type, Piece}
use Rattle.flush.specs.Meaning.{nickname_meant, label_meant, mac_meant}
use Rattle.flush.specs.Flush.{cleared_slot}
use Rattle.flush_payload.specs.declared.Kinds.{Kinds}

-- a fine-grained label where no TLV names some: all labels or none; else some piece brings the label
unfoldable pub label_noted : Kinds → List Piece → ℕ → ℕ → Bool
label_noted f ps kind x = pick (both (not (eqb kind vlan_kind)) (not (either f.lists f.maps))) f.every (label_meant every_type ps (label_from kind x))

-- without TLVs of MACs every MAC is meant
unfoldable pub mac_noted : Kinds → List Piece → ℕ → Bool
mac_noted f ps m = pick f.macs (mac_meant every_type ps m) true

-- learned, and nickname, label and MAC are meant
unfoldable pub slot_noted : Kinds → List ℕ → List Piece → ℕ → List ℕ → Bool
slot_noted f nicks ps ingress r =
    both (is_learned (unpacked r))
    (both (nickname_meant ingress nicks (nickname_of (record_of r)))
    (both (label_noted f ps (kind_of (record_of r)) (label_of (record_of r)))
    (mac_noted f ps (mac_of (record_of r)))))

-- so far: of the first i slots from slot `from` on of the table t those that pass the test are cleared and counted
pub record WalkedTo (test : List ℕ → Bool) (from : ℕ) (t : List ℕ) (i c : ℕ) (u : List ℕ) : Type 0 where
  pub long : length u ≡ length t
  pub left : u ≡ on_slots (cleared_slot test) from i t
  pub count : c ≡ count_slots test from i t
  pub few : c ≤ i
