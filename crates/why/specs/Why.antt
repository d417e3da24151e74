-- Why a flush clears a slot or leaves it (2026-08): the first reason that applies, and what brought a record that is cleared.
-- Assumes nothing.
use Rattle.std.specs.Prelude.{ℕ, suc, Bool, not, List, [], ◌∷◌, eqb, ltb, length, Ok, Err}
use Rattle.numbers.specs.Tests.{pick, any_of}
use Rattle.numbers.specs.Result.{check, and_then, settled, Outcome}
use Rattle.numbers.specs.Bytes.{parts}
use Rattle.numbers.specs.Numberings.{nicknames, number_of}
use Rattle.table.specs.Record.{unpacked}
use Rattle.table.specs.Slots.{table_good, slots_of, slot_at}
use Rattle.table.specs.declared.Label.{Label}
use Rattle.table.specs.declared.Entry.{Entry}
use Rattle.table.specs.declared.Slot.{Slot}
use Rattle.table.specs.declared.Slot.TheVariants as slot
use Rattle.flush.specs.Payload.{every_type, Piece, block_count, Payload, payload_of}
use Rattle.flush.specs.Meaning.{brings_label, brings_mac, gathers_mac, nickname_meant, label_meant, mac_meant}
use Rattle.why.specs.declared.NicknameMatch.{NicknameMatch}
use Rattle.why.specs.declared.NicknameMatch.TheVariants.{Sender, Listed}
use Rattle.why.specs.declared.LabelMatch.{LabelMatch}
use Rattle.why.specs.declared.LabelMatch.TheVariants as label
use Rattle.why.specs.declared.MacMatch.{MacMatch}
use Rattle.why.specs.declared.MacMatch.TheVariants as mac
use Rattle.why.specs.declared.Places.{Places}
use Rattle.why.specs.declared.Reason.{Reason}
use Rattle.why.specs.declared.Reason.TheVariants.{Free, Spoilt, Configured, NicknameNotMeant, LabelNotMeant, MacNotMeant, Cleared}
use Rattle.numbers.specs.declared.refusals.Refusal.TheVariants.{TableLengthBad, PortionBad}

-- "places count from 0": how many elements stand before the first that passes the test
unfoldable pub place_of : {A : Type 0} → (A → Bool) → List A → ℕ
place_of p [] = 0
place_of p (x ∷ xs) = pick (p x) 0 (suc (place_of p xs))

-- a listed nickname, two bytes, is x
abbrev pub nickname_is : ℕ → List ℕ → Bool
nickname_is x b = eqb (number_of nicknames b) x

-- the listed nicknames
abbrev pub listed : List ℕ → List (List ℕ)
listed nicks = parts nicknames.size nicks

-- "the first listed nickname that matches (or 'sender')": K-nicks 0 means the sender
unfoldable pub nickname_match : List ℕ → ℕ → NicknameMatch
nickname_match nicks x = pick (eqb (length nicks) 0) Sender (Listed (place_of (nickname_is x) (listed nicks)))

-- "the first TLV or VLAN block that brings the label", of n VLAN blocks, or of all TLVs where n is 0: "skipped ones too", for they are pieces
-- that bring nothing, and a lone padding byte is no piece
unfoldable pub label_match : ℕ → List Piece → Label → LabelMatch
label_match n ps x =
    pick (eqb n 0)
    (label.Tlv (place_of (brings_label every_type x) ps))
    (label.Block (place_of (brings_label every_type x) ps))

-- "the first TLV that brings the MAC (or 'every MAC')"
unfoldable pub mac_match : List Piece → ℕ → MacMatch
mac_match ps m = pick (any_of (gathers_mac every_type) ps) (mac.Tlv (place_of (brings_mac every_type m) ps)) mac.Every

-- what brought an entry into the three sets of a payload with n VLAN blocks
abbrev pub places_of : ℕ → Payload → Entry → Places
places_of n p e = record {
  nickname = nickname_match p.nicks e.nickname;
  label = label_match n p.pieces e.label;
  mac = mac_match p.pieces e.mac;
}

-- of a learned record: "nickname not meant, label not meant, MAC not meant, or cleared"
unfoldable pub learned_reason : ℕ → Payload → ℕ → Entry → Reason
learned_reason n p ingress e =
    pick (not (nickname_meant ingress p.nicks e.nickname)) NicknameNotMeant
    (pick (not (label_meant every_type p.pieces e.label)) LabelNotMeant
    (pick (not (mac_meant every_type p.pieces e.mac)) MacNotMeant
    (Cleared (places_of n p e))))

-- "free, spoilt, configured, .."
abbrev pub reason_of : ℕ → Payload → ℕ → Slot → Reason
reason_of n p ingress slot.Free = Free
reason_of n p ingress slot.Spoilt = Spoilt
reason_of n p ingress (slot.Learned e) = learned_reason n p ingress e
reason_of n p ingress (slot.Configured e) = Configured

-- the call: 2, then 24 for a slot that is not in the table, then 15 for the whole payload
unfoldable pub why : ℕ → List ℕ → ℕ → List ℕ → Outcome Reason
why ingress l k t =
    settled Err
    (check (table_good t) TableLengthBad
    (check (ltb k (slots_of t)) PortionBad
    (and_then (payload_of every_type l) λ p.
    Ok (Ok (reason_of (block_count l) p ingress (unpacked (slot_at k t)))))))
