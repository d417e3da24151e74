-- Both models over a list of messages, slot by slot, by one induction: a slot that held a VLAN record stands in one of three ways, and
-- where only the small model has cleared it a message of the list is the witness.
-- Assumes nothing.
use Prim.Native.Nat.{ℕ, ◌<◌}
use mathlib.Core.Bool.{Bool, true, false}
use mathlib.Core.List.Memᴰ
use mathlib.Core.List.{List, [], ◌∷◌}
use mathlib.Core.Logic.{inl, inr, ⊎_elim}
use mathlib.Core.Path.{◌≡◌, refl, sym, ap, ◌∙◌}
use native.Mathlib.Omega.{arith}
use lib.ListN.{length}
use Rattle.numbers.specs.Tests.{both}
use Rattle.numbers.specs.Result.{check, and_then, settled}
use Rattle.numbers.proofs.Truth.{both_true, both_pass, false_true}
use Rattle.table.specs.Record.{unpacked}
use Rattle.table.specs.Slots.{table_good, slots_of, slot_at, freed}
use Rattle.table.specs.declared.Entry.{Entry}
use Rattle.table.specs.declared.Slot.TheVariants.{Free, Learned, Configured}
use Rattle.table.proofs.Slots.{length_all_slots, slot_all_slots}
use Rattle.flush.specs.Payload.{Types, every_type, vlan_types, Payload, payload_of}
use Rattle.flush.specs.Meaning.{nickname_meant, label_meant, mac_meant, entry_meant}
use Rattle.flush.specs.Flush.{slot_meant, cleared_slot, cleared_by, clearing, answered, flushed}
use Rattle.flush.specs.Sets.{Some}
use Rattle.flush.proofs.Sets.{nickname_agrees, label_agrees, mac_agrees}
use Rattle.table.proofs.Contents.{unpacked-freed}
use Rattle.flush.proofs.Flushing.{cleared_hit, cleared_miss, cleared_keeps}
use Rattle.models.specs.Models.{flushed_by, Message, flushes_by}
use Rattle.models.specs.Claims.{FullModel, VlanRecord, Accepted, NoMacTlv, Witness, VlanSlot, VlanOnly}
use Rattle.models.proofs.Meaning.{accepts, label_same, every_mac, mac_missed}
use Rattle.std.specs.Prelude.{Ok}

pub full_model : FullModel
unfolding flushed flushed_by
full_model ingress l t = refl

-- ---- one message over a table, for any model

module _ (types : Types) (ingress : ℕ) (l t : List ℕ) (p : Payload) (good : table_good t ≡ true) (read : payload_of types l ≡ Ok p) where
  ran : flushed_by types ingress l t ≡ answered (cleared_by (slot_meant types p ingress) t)
  unfolding flushed_by clearing settled check and_then
  ran = rw (good, read)

  ran_long : length (flushed_by types ingress l t).table ≡ length t
  unfolding cleared_by
  ran_long = rw ran (length_all_slots (cleared_slot (slot_meant types p ingress)) (cleared_keeps (slot_meant types p ingress)) t)

  ran_slot : (k : ℕ) → k < slots_of t → slot_at k (flushed_by types ingress l t).table ≡ cleared_slot (slot_meant types p ingress) (slot_at k t)
  unfolding cleared_by
  ran_slot k h = rw ran (slot_all_slots (cleared_slot (slot_meant types p ingress)) (cleared_keeps (slot_meant types p ingress)) t k h)

good_same : (t u : List ℕ) → length u ≡ length t → table_good t ≡ true → table_good u ≡ true
unfolding table_good
good_same t u e good = rw e good

freed-stays : (meant : List ℕ → Bool) → cleared_slot meant freed ≡ freed
freed-stays meant = go (meant freed) refl
  where
    go : (b : Bool) → meant freed ≡ b → cleared_slot meant freed ≡ freed
    go true e = cleared_hit meant freed e
    go false e = cleared_miss meant freed e

-- ---- one message and one VLAN record

module _ (r : List ℕ) (e : Entry) (v : VlanRecord r e) (m : Message) (p : Payload) (read : payload_of every_type m.payload ≡ Ok p) where
  abbrev nick : Bool
  nick = nickname_meant m.ingress p.nicks e.nickname

  abbrev label : Bool
  label = label_meant every_type p.pieces e.label

  abbrev mac : Bool
  mac = mac_meant every_type p.pieces e.mac

  labels : label_meant vlan_types p.pieces e.label ≡ label
  labels = rw v.label (label_same v.vlan p.pieces)

  small_entry : entry_meant vlan_types p m.ingress e ≡ both nick (both label true)
  unfolding entry_meant
  small_entry = rw (labels, every_mac p.pieces e.mac)

  full_entry : entry_meant every_type p m.ingress e ≡ both nick (both label mac)
  unfolding entry_meant
  full_entry = refl

  module _ (l : unpacked r ≡ Learned e) where
    learned_too : slot_meant every_type p m.ingress r ≡ true → slot_meant vlan_types p m.ingress r ≡ true
    unfolding slot_meant
    learned_too h =
        let f : both nick (both label mac) ≡ true = sym full_entry ∙ (rw l at h) in
        let a = both_true nick (both label mac) f in
        let b = both_true label mac a.1 in
        rw l (small_entry ∙ both_pass nick (both label true) a.0 (both_pass label true b.0 refl))

    learned_witness : slot_meant every_type p m.ingress r ≡ false → slot_meant vlan_types p m.ingress r ≡ true → Witness r e m
    unfolding slot_meant both
    learned_witness g h =
        let s : both nick (both label true) ≡ true = sym small_entry ∙ (rw l at h) in
        let f : both nick (both label mac) ≡ false = sym full_entry ∙ (rw l at g) in
        let a = both_true nick (both label true) s in
        let b = both_true label true a.1 in
        let missed : mac ≡ false = last nick label mac a.0 b.0 f in
        record {
          learned = l;
          payload = p;
          read = read;
          nickname = (nickname_agrees m.ingress p.nicks e.nickname).0 a.0;
          label = (label_agrees p.pieces e.label).0 b.0;
          mac = λ q. false_true (sym missed ∙ (mac_agrees p.pieces e.mac).1 q);
          mac_tlv = mac_missed p.pieces e.mac missed;
        }
      where
        last : (a b c : Bool) → a ≡ true → b ≡ true → both a (both b c) ≡ false → c ≡ false
        last a b c x y z = let w : both a (both b c) ≡ c = rw (x, y) in sym w ∙ z

  module _ (c : unpacked r ≡ Configured e) where
    configured_not : (types : Types) → slot_meant types p m.ingress r ≡ false
    unfolding slot_meant
    configured_not types = rw c

  too : slot_meant every_type p m.ingress r ≡ true → slot_meant vlan_types p m.ingress r ≡ true
  too h = ⊎_elim (λ l. learned_too l h) (λ c. false_true (sym (configured_not c every_type) ∙ h)) v.held

  witness : slot_meant every_type p m.ingress r ≡ false → slot_meant vlan_types p m.ingress r ≡ true → Witness r e m
  witness g h = ⊎_elim (λ l. learned_witness l g h) (λ c. false_true (sym (configured_not c vlan_types) ∙ h)) v.held

-- ---- the three ways a slot stands

-- both as it was; both free; free in the small model only, with W
data Way (W : Type 0) (r full small : List ℕ) : Type 0 where
  whole : full ≡ r → small ≡ r → Way W r full small
  gone : full ≡ freed → small ≡ freed → Way W r full small
  apart : full ≡ r → small ≡ freed → W → Way W r full small

module _ (W : Type 0) (r : List ℕ) (e : Entry) (v : VlanRecord r e) (m : Message) (p : Payload) (read : payload_of every_type m.payload ≡ Ok p) (known : Witness r e m → W) where
  abbrev full_of : List ℕ → List ℕ
  full_of = cleared_slot (slot_meant every_type p m.ingress)

  abbrev small_of : List ℕ → List ℕ
  small_of = cleared_slot (slot_meant vlan_types p m.ingress)

  from_whole : (a b : Bool) → slot_meant every_type p m.ingress r ≡ a → slot_meant vlan_types p m.ingress r ≡ b → Way W r (full_of r) (small_of r)
  from_whole true true x y = gone (cleared_hit _ r x) (cleared_hit _ r y)
  from_whole true false x y = false_true (sym y ∙ too r e v m p read x)
  from_whole false true x y = apart (cleared_miss _ r x) (cleared_hit _ r y) (known (witness r e v m p read x y))
  from_whole false false x y = whole (cleared_miss _ r x) (cleared_miss _ r y)

  from_apart : W → (a : Bool) → slot_meant every_type p m.ingress r ≡ a → Way W r (full_of r) (small_of freed)
  from_apart w true x = gone (cleared_hit _ r x) (freed-stays _)
  from_apart w false x = apart (cleared_miss _ r x) (freed-stays _) w

  step : (full small : List ℕ) → Way W r full small → Way W r (full_of full) (small_of small)
  step full small (whole a b) = rw (a, b) (from_whole _ _ refl refl)
  step full small (gone a b) = rw (a, b) (gone (freed-stays _) (freed-stays _))
  step full small (apart a b w) = rw (a, b) (from_apart w _ refl)

-- ---- the induction

module _ (W : Type 0) (t : List ℕ) (good : table_good t ≡ true) (k : ℕ) (inside : k < slots_of t) (r : List ℕ) (e : Entry) (v : VlanRecord r e) where
  runs : (ms : List Message) → Accepted ms → (Some (Witness r e) ms → W) → (full small : List ℕ) → length full ≡ length t → length small ≡ length t
      → Way W r (slot_at k full) (slot_at k small) → Way W r (slot_at k (flushes_by every_type ms full)) (slot_at k (flushes_by vlan_types ms small))
  unfolding flushes_by
  runs [] ok known full small f s way = way
  runs (m ∷ ms) ok known full small f s way =
      let (p, read) = ok m (Memᴰ.head refl) in
      let gf : table_good full ≡ true = good_same t full f good in
      let gs : table_good small ≡ true = good_same t small s good in
      let read2 : payload_of vlan_types m.payload ≡ Ok p = accepts m.payload p read in
      runs ms (λ n q. ok n (Memᴰ.tail q)) (λ q. known (q.0, Memᴰ.tail q.1, q.2))
      (flushed_by every_type m.ingress m.payload full).table
      (flushed_by vlan_types m.ingress m.payload small).table
      (ran_long every_type m.ingress m.payload full p gf read ∙ f)
      (ran_long vlan_types m.ingress m.payload small p gs read2 ∙ s)
      (rw (ran_slot every_type m.ingress m.payload full p gf read k (omega arith), ran_slot vlan_types m.ingress m.payload small p gs read2 k (omega arith))
      (step W r e v m p read (λ w. known (m, Memᴰ.head refl, w)) (slot_at k full) (slot_at k small) way))

-- ---- the four points

not_freed : (r : List ℕ) (e : Entry) → VlanRecord r e → r ≡ freed → ⊥
not_freed r e v q =
    let free : unpacked r ≡ Free = ap unpacked q ∙ unpacked-freed in
    ⊎_elim (λ (l : unpacked r ≡ Learned e). let z : ◌≡◌ {A = ℕ} 0 1 = cc in absurd (omega arith)) (λ (c : unpacked r ≡ Configured e). let z : ◌≡◌ {A = ℕ} 0 1 = cc in absurd (omega arith)) v.held

no_witness : (ms : List Message) (r : List ℕ) (e : Entry) → NoMacTlv ms → Some (Witness r e) ms → ⊥
no_witness ms r e without s = let (m, q, w) = s in without m q w.payload w.read w.mac_tlv

slot_of : (ms : List Message) (r : List ℕ) (e : Entry) → VlanRecord r e → (full small : List ℕ) → Way (Some (Witness r e) ms) r full small → VlanSlot ms r e full small
slot_of ms r e v full small (whole a b) = record {
  cleared_too = λ x. absurd (not_freed r e v (sym a ∙ x));
  why = λ x y. absurd (not_freed r e v (sym b ∙ x));
  same = λ without. b ∙ sym a;
  full_is = inl a;
  small_is = inl b;
}
slot_of ms r e v full small (gone a b) = record {
  cleared_too = λ x. b;
  why = λ x y. absurd (y a);
  same = λ without. b ∙ sym a;
  full_is = inr a;
  small_is = inr b;
}
slot_of ms r e v full small (apart a b w) = record {
  cleared_too = λ x. b;
  why = λ x y. (a, w);
  same = λ without. absurd (no_witness ms r e without w);
  full_is = inl a;
  small_is = inr b;
}

pub vlan_only : VlanOnly
vlan_only = record {
  accepts = accepts;
  slots = λ ms t good ok k inside e v.
      slot_of ms (slot_at k t) e v (slot_at k (flushes_by every_type ms t)) (slot_at k (flushes_by vlan_types ms t))
      (runs (Some (Witness (slot_at k t) e) ms) t good k inside (slot_at k t) e v ms ok (λ w. w) t t refl refl (whole refl refl));
}
