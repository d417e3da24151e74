-- What holds of the reason.
-- Assumes nothing.
use Rattle.std.specs.Prelude.{ℕ, ◌<◌, ◌≤◌, true, false, ◌↔◌, ◌⊎◌, ◌≡◌, length, get_or, Ok, Err}
use mathlib.Core.List.{List, ◌∷◌, ◌++◌, Memᴰ}
use Rattle.numbers.specs.Numberings.{nicknames, number_of}
use Rattle.table.specs.Record.{unpacked}
use Rattle.table.specs.Slots.{table_good, slots_of, slot_at, freed}
use Rattle.table.specs.declared.Entry.{Entry}
use Rattle.table.specs.declared.Slot.{Slot}
use Rattle.table.specs.declared.Slot.TheVariants as slot
use Rattle.flush.specs.Payload.{every_type, block_count, Payload, payload_of}
use Rattle.flush.specs.Sets.{Some, NicknameMeant, BringsLabel, LabelMeant, BringsMac, GathersMac, MacMeant, Meant}
use Rattle.flush.specs.Flush.{flushed}
use Rattle.why.specs.Why.{listed, why}
use Rattle.why.specs.Words.{reason_number}
use Rattle.why.specs.declared.NicknameMatch.TheVariants.{Sender, Listed}
use Rattle.why.specs.declared.LabelMatch.TheVariants as label
use Rattle.why.specs.declared.MacMatch.TheVariants as mac
use Rattle.why.specs.declared.Places.{Places}
use Rattle.why.specs.declared.Reason.{Reason}
use Rattle.why.specs.declared.Reason.TheVariants.{Free, Spoilt, Configured, NicknameNotMeant, LabelNotMeant, MacNotMeant, Cleared}
use Rattle.numbers.specs.declared.refusals.Refusal.TheVariants.{TableLengthBad, PortionBad}
use Rattle.numbers.specs.declared.refusals.Refusal.{Refusal}

-- ---- "'cleared' is said exactly of the slots the flush clears"

-- the flush with this payload frees slot k, and that is a change
pub record Clears (ingress : ℕ) (l : List ℕ) (k : ℕ) (t : List ℕ) : Type 0 where
  pub freed_after : slot_at k (flushed ingress l t).table ≡ freed
  pub changed : slot_at k (flushed ingress l t).table ≡ slot_at k t → ⊥

-- cleared is said of slot k
abbrev pub SaysCleared : ℕ → List ℕ → ℕ → List ℕ → Type 0
SaysCleared ingress l k t = (w : Places) × (why ingress l k t ≡ Ok (Cleared w))

-- for every payload, slot and table, refused or not; of any other slot the flush leaves every byte
pub record WhyExact : Type 0 where
  pub exactly : (ingress : ℕ) (l : List ℕ) (k : ℕ) (t : List ℕ) → SaysCleared ingress l k t ↔ Clears ingress l k t
  pub kept : (ingress : ℕ) (l : List ℕ) (k : ℕ) (t : List ℕ) → (SaysCleared ingress l k t → ⊥) → slot_at k (flushed ingress l t).table ≡ slot_at k t

-- ---- "the first that applies in that order"

-- the slot has a record with this entry
abbrev pub Holds : Slot → Entry → Type 0
Holds s e = (s ≡ slot.Learned e) ⊎ (s ≡ slot.Configured e)

-- the reason applies to what a slot holds
abbrev pub Applies : Payload → ℕ → Slot → Reason → Type 0
Applies p ingress s Free = s ≡ slot.Free
Applies p ingress s Spoilt = s ≡ slot.Spoilt
Applies p ingress s Configured = (e : Entry) × (s ≡ slot.Configured e)
Applies p ingress s NicknameNotMeant = (e : Entry) × Holds s e × (NicknameMeant ingress p.nicks e.nickname → ⊥)
Applies p ingress s LabelNotMeant = (e : Entry) × Holds s e × (LabelMeant p.pieces e.label → ⊥)
Applies p ingress s MacNotMeant = (e : Entry) × Holds s e × (MacMeant p.pieces e.mac → ⊥)
Applies p ingress s (Cleared w) = (e : Entry) × (s ≡ slot.Learned e) × Meant p ingress e

-- it applies, and none that stands earlier does
pub record First (p : Payload) (ingress : ℕ) (s : Slot) (r : Reason) : Type 0 where
  pub applies : Applies p ingress s r
  pub none_earlier : (q : Reason) → reason_number q < reason_number r → Applies p ingress s q → ⊥

-- every slot of a good table gets a reason from a good payload, and it is the first
abbrev pub WhyFirst : Type 0
WhyFirst =
    (ingress : ℕ) (l : List ℕ) (k : ℕ) (t : List ℕ) (p : Payload) → table_good t ≡ true → k < slots_of t → payload_of every_type l ≡ Ok p
    → (r : Reason) × (why ingress l k t ≡ Ok r) × First p ingress (unpacked (slot_at k t)) r

-- ---- "each named place does bring the match with none earlier"

-- k elements stand before one that has the property, and none of these has it
pub record FirstAt {A : Type 0} (P : A → Type 0) (k : ℕ) (xs : List A) : Type 0 where
  pub before : List A
  pub at : A
  pub after : List A
  pub there : xs ≡ before ++ (at ∷ after)
  pub place : length before ≡ k
  pub brings : P at
  pub none_lower : (x : A) → Memᴰ x before → P x → ⊥

-- what is named of the entry of a cleared record. PayloadFacts says of the pieces that they are the VLAN blocks, or all TLVs.
pub record Named (ingress : ℕ) (l : List ℕ) (p : Payload) (e : Entry) (w : Places) : Type 0 where
  -- sender exactly if K-nicks is 0
  pub sender : (w.nickname ≡ Sender) ↔ (get_or l 0 0 ≡ 0)
  pub is_sender : w.nickname ≡ Sender → e.nickname ≡ ingress
  pub nickname : (k : ℕ) → w.nickname ≡ Listed k → FirstAt (λ b. number_of nicknames b ≡ e.nickname) k (listed p.nicks)
  -- a TLV exactly if K-VLBs is 0
  pub form : ((k : ℕ) × (w.label ≡ label.Tlv k)) ↔ (block_count l ≡ 0)
  pub label_tlv : (k : ℕ) → w.label ≡ label.Tlv k → FirstAt (BringsLabel e.label) k p.pieces
  pub label_block : (k : ℕ) → w.label ≡ label.Block k → FirstAt (BringsLabel e.label) k p.pieces
  -- every MAC exactly if none was gathered
  pub every : (w.mac ≡ mac.Every) ↔ (Some GathersMac p.pieces → ⊥)
  pub mac_tlv : (k : ℕ) → w.mac ≡ mac.Tlv k → FirstAt (BringsMac e.mac) k p.pieces

-- cleared is said of a learned record of a good table and by a good payload, and the places are there
pub record NamedAll (ingress : ℕ) (l : List ℕ) (k : ℕ) (t : List ℕ) (w : Places) : Type 0 where
  pub p : Payload
  pub payload : payload_of every_type l ≡ Ok p
  pub e : Entry
  pub learned : unpacked (slot_at k t) ≡ slot.Learned e
  pub named : Named ingress l p e w

abbrev pub WhyPlaces : Type 0
WhyPlaces = (ingress : ℕ) (l : List ℕ) (k : ℕ) (t : List ℕ) (w : Places) → why ingress l k t ≡ Ok (Cleared w) → NamedAll ingress l k t w

-- ---- refusals: 2, then 24, then 15

pub record WhyRefusals : Type 0 where
  pub bad_table : (ingress : ℕ) (l : List ℕ) (k : ℕ) (t : List ℕ) → table_good t ≡ false → why ingress l k t ≡ Err TableLengthBad
  pub past : (ingress : ℕ) (l : List ℕ) (k : ℕ) (t : List ℕ) → table_good t ≡ true → slots_of t ≤ k → why ingress l k t ≡ Err PortionBad
  pub corrupt : (ingress : ℕ) (l : List ℕ) (k : ℕ) (t : List ℕ) (n : Refusal) → table_good t ≡ true → k < slots_of t → payload_of every_type l ≡ Err n → why ingress l k t ≡ Err n
