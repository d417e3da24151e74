-- The reason by what was found, set by set; a payload that is cut into its parts; the call by its cases.
-- Assumes nothing.
use Prim.Native.Nat.{ℕ, ◌+◌, ◌-◌, ◌*◌, ◌<◌, ◌≤◌}
use mathlib.Core.Bool.{Bool, true, false}
use mathlib.Core.List.{List}
use mathlib.Core.Path.{◌≡◌, refl, sym, ap, ◌∙◌}
use native.Mathlib.Nat.{add-sub_cancel_left}
use native.Mathlib.Omega.{arith}
use lib.ListN.{length, take, drop, length-take}
use Rattle.numbers.specs.Tests.{pick}
use Rattle.numbers.proofs.Truth.{false_true}
use Rattle.numbers.proofs.Lists.{rest_is}
use Rattle.table.specs.Record.{record_of, entry_of, unpacked, label_from, is_learned}
use Rattle.table.specs.Slots.{slot_bytes, table_good, slots_of}
use Rattle.table.specs.declared.Entry.{Entry}
use Rattle.table.specs.declared.Slot.{Slot}
use Rattle.table.specs.declared.Slot.TheVariants as slot
use Rattle.table.proofs.Contents.{unpacked_near, learned_entry_lem}
use Rattle.flush.specs.Payload.{every_type, nick_bytes, block_count, pieces_of, Payload, made}
use Rattle.flush.specs.Meaning.{nickname_meant, label_meant, mac_meant}
use Rattle.flush.specs.Validity.{Valid}
use Rattle.flush.proofs.Validity.{validity}
use Rattle.flush_payload.specs.Judging.{Nothing, JudgedPayload}
use Rattle.flush_payload.specs.declared.Kinds.{Kinds}
use Rattle.why.specs.Why.{nickname_match, label_match, mac_match, learned_reason, reason_of, why}
use Rattle.why.specs.declared.NicknameMatch.{NicknameMatch}
use Rattle.why.specs.declared.LabelMatch.{LabelMatch}
use Rattle.why.specs.declared.MacMatch.{MacMatch}
use Rattle.why.specs.declared.Reason.{Reason}
use Rattle.why.specs.declared.Reason.TheVariants.{Free, Spoilt, Configured, NicknameNotMeant, LabelNotMeant, MacNotMeant, Cleared}
use Rattle.why.proofs.Calls.{bad_table, past, corrupted, answered}
use Rattle.why_places.specs.Found.{nickname_found, label_found, mac_found}
use Rattle.why_call.specs.Cut.{cut, GoodRest, GoodParts}
use Rattle.std.specs.Prelude.{Option, Some, None, Ok, Err}
use Rattle.numbers.specs.Result.{Outcome}
use Rattle.numbers.specs.declared.refusals.Refusal.TheVariants.{TableLengthBad, PortionBad}
use Rattle.numbers.specs.declared.refusals.Refusal.{Refusal}

-- ---- what was found, and whether it is meant

found_some : {A : Type 0} (b : Bool) (m n : A) → pick b (Some m) None ≡ Some n → (b ≡ true) × (n ≡ m)
unfolding pick
found_some true m n h = (refl, (cc))
found_some false m n h = let z : ◌≡◌ {A = ℕ} 0 1 = cc in absurd (omega arith)

found_none : {A : Type 0} (b : Bool) (m : A) → pick b (Some m) None ≡ None → b ≡ false
unfolding pick
found_none true m h = let z : ◌≡◌ {A = ℕ} 0 1 = cc in absurd (omega arith)
found_none false m h = refl

-- ---- the reason of a learned record

-- a label from its kind and its number
pub label_same : (kind x k n : ℕ) → kind ≡ k → x ≡ n → label_from kind x ≡ label_from k n
label_same kind x k n a b = rw (a, b)

module _ (blocks : ℕ) (nicks rest : List ℕ) (ingress : ℕ) (e : Entry) (own : ℕ) (own_is : own ≡ e.nickname) (x : Option NicknameMatch) (found : x ≡ nickname_found ingress nicks own) where
  nickname : x ≡ nickname_found ingress nicks e.nickname
  nickname = found ∙ ap (nickname_found ingress nicks) own_is

  abbrev Is : Reason → Type 0
  Is r = r ≡ learned_reason blocks (cut nicks blocks rest) ingress e

  nickname_no : x ≡ None → nickname_meant ingress nicks e.nickname ≡ false
  unfolding nickname_found
  nickname_no h = found_none (nickname_meant ingress nicks e.nickname) (nickname_match nicks e.nickname) (sym nickname ∙ h)

  nickname_yes : (m : NicknameMatch) → x ≡ Some m → (nickname_meant ingress nicks e.nickname ≡ true) × (m ≡ nickname_match nicks e.nickname)
  unfolding nickname_found
  nickname_yes m h = found_some (nickname_meant ingress nicks e.nickname) (nickname_match nicks e.nickname) m (sym nickname ∙ h)

  pub reason_nickname : x ≡ None → Is NicknameNotMeant
  unfolding learned_reason pick
  reason_nickname h = rw (nickname_no h)

  module _ (m : NicknameMatch) (by : x ≡ Some m) (kind number : ℕ) (Label-is : label_from kind number ≡ e.label)
      (y : Option LabelMatch) (label : y ≡ label_found blocks (pieces_of blocks rest) (label_from kind number)) where
    named : y ≡ label_found blocks (pieces_of blocks rest) e.label
    named = label ∙ ap (label_found blocks (pieces_of blocks rest)) Label-is

    label_no : y ≡ None → label_meant every_type (pieces_of blocks rest) e.label ≡ false
    unfolding label_found
    label_no h = found_none (label_meant every_type (pieces_of blocks rest) e.label) (label_match blocks (pieces_of blocks rest) e.label) (sym named ∙ h)

    label_yes : (k : LabelMatch) → y ≡ Some k → (label_meant every_type (pieces_of blocks rest) e.label ≡ true) × (k ≡ label_match blocks (pieces_of blocks rest) e.label)
    unfolding label_found
    label_yes k h = found_some (label_meant every_type (pieces_of blocks rest) e.label) (label_match blocks (pieces_of blocks rest) e.label) k (sym named ∙ h)

    pub reason_label : y ≡ None → Is LabelNotMeant
    unfolding learned_reason pick
    reason_label h = rw ((nickname_yes m by).0, label_no h)

    module _ (k : LabelMatch) (by-label : y ≡ Some k) (address : ℕ) (address_is : address ≡ e.mac) (z : Option MacMatch) (by_mac : z ≡ mac_found (pieces_of blocks rest) address) where
      mac : z ≡ mac_found (pieces_of blocks rest) e.mac
      mac = by_mac ∙ ap (mac_found (pieces_of blocks rest)) address_is

      mac_no : z ≡ None → mac_meant every_type (pieces_of blocks rest) e.mac ≡ false
      unfolding mac_found
      mac_no h = found_none (mac_meant every_type (pieces_of blocks rest) e.mac) (mac_match (pieces_of blocks rest) e.mac) (sym mac ∙ h)

      mac_yes : (j : MacMatch) → z ≡ Some j → (mac_meant every_type (pieces_of blocks rest) e.mac ≡ true) × (j ≡ mac_match (pieces_of blocks rest) e.mac)
      unfolding mac_found
      mac_yes j h = found_some (mac_meant every_type (pieces_of blocks rest) e.mac) (mac_match (pieces_of blocks rest) e.mac) j (sym mac ∙ h)

      pub reason_mac : z ≡ None → Is MacNotMeant
      unfolding learned_reason pick
      reason_mac h = rw ((nickname_yes m by).0, (label_yes k by-label).0, mac_no h)

      pub reason_cleared : (j : MacMatch) → z ≡ Some j → Is (Cleared (record { nickname = m; label = k; mac = j }))
      unfolding learned_reason pick
      reason_cleared j h =
          rw (
            (nickname_yes m by).0,
            (label_yes k by-label).0,
            (mac_yes j h).0,
            (nickname_yes m by).1,
            (label_yes k by-label).1,
            (mac_yes j h).1,
          )

-- ---- a payload cut into its parts

module _ (l : List ℕ) (f : Kinds) (parts : GoodParts l f) (k : ℕ) (nicks : k ≡ nick_bytes l) where
  pub cut-made : (ingress : ℕ) (e : Entry) (r : Reason) → r ≡ learned_reason f.blocks (cut (take (1 + k - 1) (drop 1 l)) f.blocks (take (length l - (2 + k)) (drop (2 + k) l))) ingress e
      → r ≡ learned_reason (block_count l) (made l) ingress e
  cut-made ingress e r h = rw (add-sub_cancel_left 1 k, rest_is (2 + k) l, nicks, parts.number) at h

  pub cut_rest : GoodRest f (take (length l - (2 + k)) (drop (2 + k) l))
  cut_rest = let r = parts.rest in rw (rest_is (2 + k) l, nicks) r

pub cut_few : (l : List ℕ) (k : ℕ) → k < 512 → length (take (1 + k - 1) (drop 1 l)) < 512
cut_few l k few = simp length-take (omega arith)

-- ---- what a slot holds

module _ (n : ℕ) (p : Payload) (ingress : ℕ) (r : List ℕ) where
  -- the mark of a learned record decides nothing
  pub reason_learned : (b : Bool) → b ≡ is_learned (unpacked r) → b ≡ true → (x : Reason) → x ≡ learned_reason n p ingress (entry_of (record_of r)) → x ≡ reason_of n p ingress (unpacked r)
  unfolding learned_reason
  reason_learned b learned is x q = q ∙ sym (ap (reason_of n p ingress) (learned_entry_lem r (sym learned ∙ is)))

  module _ (s : Slot) (holds : s ≡ unpacked r) where
    pub reason_free : s ≡ slot.Free → Free ≡ reason_of n p ingress (unpacked r)
    reason_free h = sym (ap (reason_of n p ingress) (sym holds ∙ h))

    pub reason_spoilt : s ≡ slot.Spoilt → Spoilt ≡ reason_of n p ingress (unpacked r)
    reason_spoilt h = sym (ap (reason_of n p ingress) (sym holds ∙ h))

    pub reason_configured : (e : Entry) → s ≡ slot.Configured e → Configured ≡ reason_of n p ingress (unpacked r)
    reason_configured e h = sym (ap (reason_of n p ingress) (sym holds ∙ h))

    pub reason_never : (b : Bool) → b ≡ is_learned (unpacked r) → b ≡ false → (e : Entry) → s ≡ slot.Learned e → Spoilt ≡ reason_of n p ingress (unpacked r)
    reason_never b learned other e h = false_true (sym other ∙ learned ∙ ap is_learned (sym holds ∙ h))

-- ---- judging

pub blocks_alone : (n : ℕ) → Nothing n (record { blocks = n; every = false; vlans = false; lists = false; maps = false; macs = false })
blocks_alone n = record { blocks = refl; every = refl; vlans = refl; lists = refl; maps = refl; macs = refl }

-- ---- the call

module _ (ingress : ℕ) (l : List ℕ) (k : ℕ) (t : List ℕ) (g : Bool) (good : g ≡ table_good t) where
  pub why_table : g ≡ false → Err TableLengthBad ≡ why ingress l k t
  why_table h = sym (bad_table ingress l k t (sym good ∙ h))

  module _ (ok : g ≡ true) where
    pub why_past : slots_of t ≤ k → Err PortionBad ≡ why ingress l k t
    why_past h = sym (past ingress l k t (sym good ∙ ok) h)

    module _ (inside : k < slots_of t) (j : Outcome Kinds) (judged : JudgedPayload every_type l j) where
      pub why_corrupt : (r : Refusal) → j ≡ Err r → Err r ≡ why ingress l k t
      why_corrupt r h = sym (corrupted ingress l k t (sym good ∙ ok) inside r (judged.bad r h))

      module _ (f : Kinds) (fine : j ≡ Ok f) where
        valid : Valid l
        valid = (validity.valid l).0 (judged.good f fine)

        pub good_parts : GoodParts l f
        good_parts =
            let number = (judged.noted f fine).blocks in
            let macs = (judged.noted f fine).macs in
            let blocks = valid.blocks in
            record {
              counts = valid.counts;
              number = number;
              rest = record { blocks = rw number blocks; macs = rw number macs };
            }

        pub why_because : (r : Reason) → r ≡ reason_of (block_count l) (made l) ingress (unpacked (drop (slot_bytes * k) t)) → Ok r ≡ why ingress l k t
        why_because r reason =
            sym (answered ingress l k t (sym good ∙ ok) inside (made l) (judged.good f fine) ∙ ap Ok (rw unpacked_near (sym reason)))
