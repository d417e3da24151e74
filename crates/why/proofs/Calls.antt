-- The call by its cases: refused by the table, by the slot or by the payload, or the reason. Where it is refused the flush changes no byte of
-- the slot: it is refused too, or the slot lies past the table.
-- Assumes nothing.
use Prim.Native.Nat.{ℕ, ◌+◌, ◌*◌, ◌%◌, ◌<◌, ◌≤◌}
use mathlib.Core.Bool.{Bool, true, false, not}
use mathlib.Core.List.{List}
use mathlib.Core.Logic.{◌↔◌, ◌⊎◌, inl, inr, ⊎_elim}
use mathlib.Core.Path.{◌≡◌, refl, sym, ap, subst, ◌∙◌}
use native.Mathlib.Omega.{arith}
use lib.Dec.{eqb, leb, ltb}
use lib.ListN.{length, take, length-take, length-drop, drop_of_length-le}
use borrow.Author.Tests.{ltb-true, ltb-false, lt-ltb, le-ltb, leb-true, eqb-true, eqb-false, eq-eqb}
use Rattle.numbers.specs.Tests.{pick, either, any_of, between}
use Rattle.numbers.specs.Result.{Outcome, check, and_then, settled}
use Rattle.numbers.specs.Numberings.{nicknames, number_of, in_list}
use Rattle.numbers.proofs.Truth.{both_true, false_true}
use Rattle.numbers.proofs.Answers.{got_got, check_got, then_got}
use Rattle.table.specs.Record.{unpacked}
use Rattle.table.specs.Slots.{slot_bytes, most_slots, table_good, slots_of, slot_at}
use Rattle.table.specs.declared.Label.{Label}
use Rattle.table.specs.declared.Entry.{Entry}
use Rattle.flush.specs.Payload.{every_type, Piece, corrupt, nick_bytes, block_count, behind, block_bytes, pieces_of, Payload, made, payload_of}
use Rattle.flush.specs.Meaning.{brings_label, brings_mac, gathers_mac, nickname_meant, label_meant, mac_meant}
use Rattle.flush.specs.Sets.{Some, BringsLabel, BringsMac, GathersMac, Meant}
use Rattle.flush.specs.Flush.{flushed}
use Rattle.flush.proofs.Lists.{any_some}
use Rattle.flush.proofs.Sets.{label_brought, mac_brought, mac_gathered, nickname_agrees, label_agrees, mac_agrees}
use Rattle.flush.proofs.Flushing.{flush_exact}
use Rattle.flush.proofs.Validity.{validity}
use Rattle.why.specs.Why.{place_of, nickname_is, listed, nickname_match, label_match, mac_match, places_of, reason_of, why}
use Rattle.why.specs.Claims.{Clears, SaysCleared, WhyExact, WhyFirst, FirstAt, Named, WhyPlaces, WhyRefusals}
use Rattle.why.specs.declared.NicknameMatch.TheVariants.{Sender, Listed}
use Rattle.why.specs.declared.LabelMatch.{LabelMatch}
use Rattle.why.specs.declared.LabelMatch.TheVariants as label
use Rattle.why.specs.declared.MacMatch.TheVariants as mac
use Rattle.why.specs.declared.Places.{Places}
use Rattle.why.specs.declared.Reason.{Reason}
use Rattle.why.specs.declared.Reason.TheVariants.{Free, Spoilt, Configured, NicknameNotMeant, LabelNotMeant, MacNotMeant, Cleared}
use Rattle.why.proofs.FirstPlace.{first_says}
use Rattle.why.proofs.Reasons.{reason_first, meant_cleared, cleared_meant}
use Rattle.std.specs.Prelude.{Ok, Err}
use Rattle.numbers.specs.declared.refusals.Refusal.TheVariants.{TableLengthBad, PortionBad}
use Rattle.numbers.specs.declared.refusals.Refusal.{Refusal}

-- ---- the call

module _ (ingress : ℕ) (l : List ℕ) (k : ℕ) (t : List ℕ) where
  pub bad_table : table_good t ≡ false → why ingress l k t ≡ Err TableLengthBad
  unfolding why settled check
  bad_table h = rw h

  module _ (good : table_good t ≡ true) where
    pub past : slots_of t ≤ k → why ingress l k t ≡ Err PortionBad
    unfolding why settled check
    past h = rw (good, le-ltb k (slots_of t) h)

    module _ (inside : k < slots_of t) where
      pub corrupted : (n : Refusal) → payload_of every_type l ≡ Err n → why ingress l k t ≡ Err n
      unfolding why settled check and_then
      corrupted n h = rw (good, lt-ltb k (slots_of t) inside, h)

      pub answered : (p : Payload) → payload_of every_type l ≡ Ok p → why ingress l k t ≡ Ok (reason_of (block_count l) p ingress (unpacked (slot_at k t)))
      unfolding why settled check and_then
      answered p h = rw (good, lt-ltb k (slots_of t) inside, h)

pub why_refusals : WhyRefusals
why_refusals = record { bad_table = bad_table; past = past; corrupt = λ ingress l k t n good inside. corrupted ingress l k t good inside n }

pub why_first : WhyFirst
why_first ingress l k t p good inside read = (_, answered ingress l k t good inside p read, reason_first (block_count l) p ingress (unpacked (slot_at k t)))

-- an answer that is a reason came from a value
reason_got : (x : Outcome (Outcome Reason)) (r : Reason) → settled Err x ≡ Ok r → x ≡ Ok (Ok r)
unfolding settled
reason_got (Err n) r h = let z : ◌≡◌ {A = ℕ} 0 1 = cc in absurd (omega arith)
reason_got (Ok a) r h = ap Ok h

-- where it came from
record From (ingress : ℕ) (l : List ℕ) (k : ℕ) (t : List ℕ) (r : Reason) : Type 0 where
  good : table_good t ≡ true
  inside : k < slots_of t
  p : Payload
  read : payload_of every_type l ≡ Ok p
  reason : reason_of (block_count l) p ingress (unpacked (slot_at k t)) ≡ r

from : (ingress : ℕ) (l : List ℕ) (k : ℕ) (t : List ℕ) (r : Reason) → why ingress l k t ≡ Ok r → From ingress l k t r
unfolding why
from ingress l k t r h =
    let a = check_got (table_good t) _ _ _ (reason_got _ r h) in
    let b = check_got (ltb k (slots_of t)) _ _ _ a.1 in
    let (p, read, c) = then_got _ _ _ b.1 in
    let d = got_got _ _ c in
    record { good = a.0; inside = ltb-true k (slots_of t) b.0; p = p; read = read; reason = cc }

-- ---- WhyExact

module _ (ingress : ℕ) (l : List ℕ) (k : ℕ) (t : List ℕ) where
  abbrev Same : Type 0
  Same = slot_at k (flushed ingress l t).table ≡ slot_at k t

  says_clears : SaysCleared ingress l k t → Clears ingress l k t
  says_clears (w, h) =
      let f = from ingress l k t (Cleared w) h in
      let (e, learned, m, is) = cleared_meant (block_count l) f.p ingress (unpacked (slot_at k t)) w f.reason in
      let s = (flush_exact.flush ingress l t f.p f.good f.read).each k f.inside in
      record { freed_after = s.cleared e learned m; changed = s.changed e learned m }

  -- a slot past the table has no bytes
  past_same : table_good t ≡ true → slots_of t ≤ k → length (flushed ingress l t).table ≡ length t → Same
  unfolding table_good
  past_same good h long =
      let whole = eqb-true (length t % slot_bytes) 0 (both_true (between 1 (slot_bytes * most_slots) (length t)) _ good).1 in
      let short : length t ≤ slot_bytes * k = omega arith in
      let after : length (flushed ingress l t).table ≤ slot_bytes * k = omega arith in
      ap (take slot_bytes) (drop_of_length-le (flushed ingress l t).table after ∙ sym (drop_of_length-le t short))

  module _ (none : SaysCleared ingress l k t → ⊥) where
    kept_read : table_good t ≡ true → (r : Outcome Payload) → payload_of every_type l ≡ r → Same
    kept_read good (Err n) read = ap (slot_at k) (ap (λ x. x.table) (flush_exact.corrupt ingress l t n good read))
    kept_read good (Ok p) read = go (ltb k (slots_of t)) refl
      where
        go : (b : Bool) → ltb k (slots_of t) ≡ b → Same
        go true h =
            ((flush_exact.flush ingress l t p good read).each k (ltb-true k (slots_of t) h)
            ).kept
            (λ e learned m.
            none (
              places_of (block_count l) p e,
              answered ingress l k t good (ltb-true k (slots_of t) h) p read ∙ ap Ok (meant_cleared (block_count l) p ingress (unpacked (slot_at k t)) e learned m),
            ))
        go false h = past_same good (ltb-false k (slots_of t) h) (flush_exact.flush ingress l t p good read).same_length

    kept : Same
    kept = go (table_good t) refl
      where
        go : (b : Bool) → table_good t ≡ b → Same
        go true good = kept_read good (payload_of every_type l) refl
        go false bad = ap (slot_at k) (ap (λ x. x.table) (validity.bad_table ingress l t bad))

  -- cleared is said or it is not
  said : (a : Outcome Reason) → ((w : Places) × (a ≡ Ok (Cleared w))) ⊎ ((w : Places) × (a ≡ Ok (Cleared w)) → ⊥)
  said (Err n) = inr (λ q. let h = q.1 in let z : ◌≡◌ {A = ℕ} 0 1 = cc in omega arith)
  said (Ok Free) = inr (λ q. let h = q.1 in let z : ◌≡◌ {A = ℕ} 0 1 = cc in omega arith)
  said (Ok Spoilt) = inr (λ q. let h = q.1 in let z : ◌≡◌ {A = ℕ} 0 1 = cc in omega arith)
  said (Ok Configured) = inr (λ q. let h = q.1 in let z : ◌≡◌ {A = ℕ} 0 1 = cc in omega arith)
  said (Ok NicknameNotMeant) = inr (λ q. let h = q.1 in let z : ◌≡◌ {A = ℕ} 0 1 = cc in omega arith)
  said (Ok LabelNotMeant) = inr (λ q. let h = q.1 in let z : ◌≡◌ {A = ℕ} 0 1 = cc in omega arith)
  said (Ok MacNotMeant) = inr (λ q. let h = q.1 in let z : ◌≡◌ {A = ℕ} 0 1 = cc in omega arith)
  said (Ok (Cleared w)) = inl (w, refl)

  clears_says : Clears ingress l k t → SaysCleared ingress l k t
  clears_says c = ⊎_elim (λ s. s) (λ none. absurd (c.changed (kept none))) (said (why ingress l k t))

pub why_exact : WhyExact
why_exact = record { exactly = λ ingress l k t. (says_clears ingress l k t, clears_says ingress l k t); kept = kept }

-- ---- WhyPlaces

-- a good payload is what is made of it, and its nicknames are there
payload_made : (l : List ℕ) (p : Payload) → payload_of every_type l ≡ Ok p → (made l ≡ p) × (1 + nick_bytes l ≤ length l)
unfolding payload_of
payload_made l p e =
    let a = check_got (leb 1 (length l)) _ _ p e in
    let b = check_got (leb (1 + nick_bytes l) (length l)) _ _ p a.1 in
    let c = check_got (leb (2 + nick_bytes l) (length l)) _ _ p b.1 in
    let d = check_got (leb (block_bytes * block_count l) (length (behind l))) _ _ p c.1 in
    let f = check_got (not (any_of (corrupt every_type) (pieces_of (block_count l) (behind l)))) _ _ p d.1 in
    (got_got (made l) p f.1, leb-true (1 + nick_bytes l) (length l) b.0)

nicks_long : (l : List ℕ) (p : Payload) → payload_of every_type l ≡ Ok p → length p.nicks ≡ nick_bytes l
nicks_long l p e =
    let (is, room) = payload_made l p e in
    subst (λ (q : Payload). length q.nicks ≡ nick_bytes l) is (simp (length-take, length-drop) (omega arith))

-- the nickname: no list, or the first listed one
module _ (ingress : ℕ) (nicks : List ℕ) (x : ℕ) (meant : nickname_meant ingress nicks x ≡ true) where
  nickname_sender : (b : Bool) → eqb (length nicks) 0 ≡ b → (pick b Sender (Listed (place_of (nickname_is x) (listed nicks))) ≡ Sender) ↔ (length nicks ≡ 0)
  unfolding pick
  nickname_sender true e = (λ h. eqb-true (length nicks) 0 e, λ h. refl)
  nickname_sender false e = (λ h. let z : ◌≡◌ {A = ℕ} 0 1 = cc in absurd (omega arith), λ h. absurd (eqb-false (length nicks) 0 e h))

  -- the test that the list decides
  list_decides : (b : Bool) → eqb (length nicks) 0 ≡ b → pick b (eqb x ingress) (in_list nicknames x nicks) ≡ true → (k : ℕ) → pick b Sender (Listed (place_of (nickname_is x) (listed nicks))) ≡ Listed k
      → FirstAt (λ b. number_of nicknames b ≡ x) k (listed nicks)
  unfolding pick in_list
  list_decides true e m k h = let z : ◌≡◌ {A = ℕ} 0 1 = cc in absurd (omega arith)
  list_decides false e m k h =
      let place : place_of (nickname_is x) (listed nicks) ≡ k = cc in
      subst (λ (j : ℕ). FirstAt (λ b. number_of nicknames b ≡ x) j (listed nicks)) place
      (first_says (nickname_is x) (λ b. number_of nicknames b ≡ x) (λ b. (eqb-true (number_of nicknames b) x, eq-eqb (number_of nicknames b) x)) (listed nicks) m)

  sender_decides : (b : Bool) → eqb (length nicks) 0 ≡ b → pick b (eqb x ingress) (in_list nicknames x nicks) ≡ true → pick b Sender (Listed (place_of (nickname_is x) (listed nicks))) ≡ Sender → x ≡ ingress
  unfolding pick
  sender_decides true e m h = eqb-true x ingress m
  sender_decides false e m h = let z : ◌≡◌ {A = ℕ} 0 1 = cc in absurd (omega arith)

  match_sender : (nickname_match nicks x ≡ Sender) ↔ (length nicks ≡ 0)
  unfolding nickname_match
  match_sender = nickname_sender _ refl

  match_is_sender : nickname_match nicks x ≡ Sender → x ≡ ingress
  unfolding nickname_match nickname_meant
  match_is_sender = sender_decides _ refl meant

  match_listed : (k : ℕ) → nickname_match nicks x ≡ Listed k → FirstAt (λ b. number_of nicknames b ≡ x) k (listed nicks)
  unfolding nickname_match nickname_meant
  match_listed = list_decides _ refl meant

-- the label: the first piece that brings it, in both forms
module _ (n : ℕ) (ps : List Piece) where
  module _ (x : Label) (meant : label_meant every_type ps x ≡ true) where
    label_first : FirstAt (BringsLabel x) (place_of (brings_label every_type x) ps) ps
    unfolding label_meant
    label_first = first_says (brings_label every_type x) (BringsLabel x) (label_brought x) ps meant

    abbrev Matched : Bool → LabelMatch
    Matched b = pick b (label.Tlv (place_of (brings_label every_type x) ps)) (label.Block (place_of (brings_label every_type x) ps))

    label_form : (b : Bool) → eqb n 0 ≡ b → ((k : ℕ) × (Matched b ≡ label.Tlv k)) ↔ (n ≡ 0)
    unfolding pick
    label_form true e = (λ h. eqb-true n 0 e, λ h. (_, refl))
    label_form false e = (λ h. let q = h.1 in let z : ◌≡◌ {A = ℕ} 0 1 = cc in absurd (omega arith), λ h. absurd (eqb-false n 0 e h))

    label_at : (b : Bool) (k : ℕ) → (Matched b ≡ label.Tlv k) ⊎ (Matched b ≡ label.Block k) → FirstAt (BringsLabel x) k ps
    unfolding pick
    label_at true k (inl h) = let place : place_of (brings_label every_type x) ps ≡ k = cc in subst (λ (j : ℕ). FirstAt (BringsLabel x) j ps) place label_first
    label_at true k (inr h) = let z : ◌≡◌ {A = ℕ} 0 1 = cc in absurd (omega arith)
    label_at false k (inl h) = let z : ◌≡◌ {A = ℕ} 0 1 = cc in absurd (omega arith)
    label_at false k (inr h) = let place : place_of (brings_label every_type x) ps ≡ k = cc in subst (λ (j : ℕ). FirstAt (BringsLabel x) j ps) place label_first

    match_form : ((k : ℕ) × (label_match n ps x ≡ label.Tlv k)) ↔ (n ≡ 0)
    unfolding label_match
    match_form = label_form _ refl

    match_at : (k : ℕ) → (label_match n ps x ≡ label.Tlv k) ⊎ (label_match n ps x ≡ label.Block k) → FirstAt (BringsLabel x) k ps
    unfolding label_match
    match_at = label_at _

-- the MAC: none gathered, or the first TLV that brings it
module _ (ps : List Piece) (m : ℕ) (meant : mac_meant every_type ps m ≡ true) where
  gathered : (any_of (gathers_mac every_type) ps ≡ true) ↔ Some GathersMac ps
  gathered = any_some (gathers_mac every_type) GathersMac mac_gathered ps

  mac_every : (b : Bool) → any_of (gathers_mac every_type) ps ≡ b → (pick b (mac.Tlv (place_of (brings_mac every_type m) ps)) mac.Every ≡ mac.Every) ↔ (Some GathersMac ps → ⊥)
  unfolding pick
  mac_every true e = (λ h. let z : ◌≡◌ {A = ℕ} 0 1 = cc in absurd (omega arith), λ none. absurd (none (gathered.0 e)))
  mac_every false e = (λ h s. false_true (sym e ∙ gathered.1 s), λ none. refl)

  mac_at : (b : Bool) → either (not b) (any_of (brings_mac every_type m) ps) ≡ true → (k : ℕ) → pick b (mac.Tlv (place_of (brings_mac every_type m) ps)) mac.Every ≡ mac.Tlv k → FirstAt (BringsMac m) k ps
  unfolding pick either
  mac_at true h k e =
      let place : place_of (brings_mac every_type m) ps ≡ k = cc in
      subst (λ (j : ℕ). FirstAt (BringsMac m) j ps) place (first_says (brings_mac every_type m) (BringsMac m) (mac_brought m) ps h)
  mac_at false h k e = let z : ◌≡◌ {A = ℕ} 0 1 = cc in absurd (omega arith)

  match_every : (mac_match ps m ≡ mac.Every) ↔ (Some GathersMac ps → ⊥)
  unfolding mac_match
  match_every = mac_every _ refl

  match_mac : (k : ℕ) → mac_match ps m ≡ mac.Tlv k → FirstAt (BringsMac m) k ps
  unfolding mac_match mac_meant
  match_mac = mac_at _ meant

named : (ingress : ℕ) (l : List ℕ) (p : Payload) (e : Entry) → payload_of every_type l ≡ Ok p → Meant p ingress e → Named ingress l p e (places_of (block_count l) p e)
named ingress l p e read m =
    let x = (nickname_agrees ingress p.nicks e.nickname).1 m.nickname in
    let y = (label_agrees p.pieces e.label).1 m.label in
    let z = (mac_agrees p.pieces e.mac).1 m.mac in
    let long = nicks_long l p read in
    let s = match_sender ingress p.nicks e.nickname x in
    record {
      sender = (λ h. let q = s.0 h in omega arith, λ h. s.1 (omega arith));
      is_sender = match_is_sender ingress p.nicks e.nickname x;
      nickname = match_listed ingress p.nicks e.nickname x;
      form = match_form (block_count l) p.pieces e.label y;
      label_tlv = λ k h. match_at (block_count l) p.pieces e.label y k (inl h);
      label_block = λ k h. match_at (block_count l) p.pieces e.label y k (inr h);
      every = match_every p.pieces e.mac z;
      mac_tlv = match_mac p.pieces e.mac z;
    }

pub why_places : WhyPlaces
why_places ingress l k t w h =
    let f = from ingress l k t (Cleared w) h in
    let (e, learned, m, is) = cleared_meant (block_count l) f.p ingress (unpacked (slot_at k t)) w f.reason in
    record {
      p = f.p;
      payload = f.read;
      e = e;
      learned = learned;
      named = subst (Named ingress l f.p e) (sym is) (named ingress l f.p e f.read m);
    }
