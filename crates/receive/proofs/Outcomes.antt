-- The outcomes of reading: onward and other channels leave everything, a flush clears, a delivery learns a good entry; and what is
-- refused leaves everything.
-- Assumes nothing.
use Prim.Native.Nat.{ℕ, ◌<◌, ◌≤◌, ◌^◌}
use native.Mathlib.Omega.{arith}
use mathlib.Core.Bool.{Bool, true, false}
use mathlib.Core.List.{List, [], ◌++◌}
use mathlib.Core.Logic.{⊎_elim}
use mathlib.Core.Path.{◌≡◌, refl, subst}
use lib.Dec.{leb, eqb}
use lib.ListN.{length}
use lib.Seq.{take-append_seam}
use borrow.Author.Tests.{leb-true}
use Rattle.numbers.specs.Tests.{pick, either}
use Rattle.numbers.specs.Result.{Outcome, check, and_then, settled}
use Rattle.numbers.specs.After.{OnTable, on_table, OnBoth, on_both}
use Rattle.numbers.specs.Bytes.{num}
use Rattle.numbers.specs.Ranges.{individual, nickname_good}
use Rattle.numbers.proofs.Truth.{both_true, both_pass, between_is}
use Rattle.numbers.proofs.Answers.{refused_got, got_got, check_got, pick_got, then_got}
use Rattle.table.specs.Record.{label_good, entry_good}
use Rattle.table.specs.Learning.{learnt}
use Rattle.table.specs.declared.Label.{Label}
use Rattle.table.specs.declared.Learning.TheVariants.{Kept}
use Rattle.table.specs.Slots.{table_good}
use Rattle.table.specs.Claims.{Sound, Apart, LeavesAlone}
use Rattle.table.proofs.Packing.{label_fits}
use Rattle.table.proofs.Apart.{learning_apart}
use Rattle.table.proofs.Stays.{learning_leaves_alone}
use Rattle.flush.specs.Payload.{every_type}
use Rattle.flush.specs.Flush.{clearing, flushed}
use Rattle.flush.proofs.Flushing.{flush_exact, clearing-apart}
use Rattle.flush.proofs.Stays.{clearing_leaves_alone}
use Rattle.frame.specs.Settings.{addresses_good, seconds_good, numbers_good, later_good, settings_good, life_of, default_life, compact_on}
use Rattle.frame.specs.Front.{address_in, Front, unicast, multicast, refused_front, inner, front_of}
use Rattle.frame.specs.Header.{ingress_of, egress_of}
use Rattle.frame.specs.Labels.{is_channel, label_read}
use Rattle.frame.specs.Fields.{Fields}
use Rattle.frame.specs.Formats.{by_front, parsed}
use Rattle.frame.specs.declared.Settings.{Settings}
use Rattle.frame.proofs.Local.{labels_good}
use Rattle.frame.proofs.Parts.{Good, general_is, compact_is}
use Rattle.receive.specs.Deciding.{is_own, is_marked, ingress_allowed, nicknames_good, channel_payload}
use Rattle.receive.specs.Delivering.{native_out}
use Rattle.receive.specs.Receive.{learned_entry, taught, delivered_with, delivery, flushed_with, channel, acted, reading, received_with, port_received}
use Rattle.receive.specs.Words.{LabelFits}
use Rattle.receive.specs.Claims.{ReadRefusal, ReadingKeepsApart, ReadsParsed, ReadingLeavesAlone, FlushRead, ReadFlushExact}
use Rattle.receive.specs.declared.ReadAnswer.{ReadAnswer}
use Rattle.receive.specs.declared.ReadAnswer.TheVariants.{Onward, OtherChannel, Flushed}
use Rattle.std.specs.Prelude.{Ok, Err}
use Rattle.numbers.specs.declared.refusals.Refusal.{Refusal}

pub reads_parsed : ReadsParsed
unfolding port_received received_with
reads_parsed s m f g t o e = rw e

-- ---- what an accepted reading left

-- a property of outcomes that holds of each that is not refused
pub record Holds (m : List ℕ) (life : ℕ) (s : Settings) (p : Fields) (t o : List ℕ) (P : OnBoth (Outcome ReadAnswer) → Type 0) : Type 0 where
  pub onward : P (on_both (Ok Onward) t o)
  pub other : P (on_both (Ok OtherChannel) t o)
  pub flushes : is_channel p.content ≡ true → (c : OnTable ℕ) → clearing every_type (ingress_of p.header) (channel_payload p.content) t ≡ Ok c → P (flushed_with o c)
  pub delivers : nicknames_good s p.header ≡ true → individual (num p.src) ≡ true → (b : List ℕ) → native_out m p ≡ Ok b → P (delivered_with p b o (taught life s p t))

module _ (m : List ℕ) (life : ℕ) (s : Settings) (p : Fields) (t o : List ℕ) (P : OnBoth (Outcome ReadAnswer) → Type 0) (h : Holds m life s p t o P) where
  channel_left : is_channel p.content ≡ true → (a : OnBoth (Outcome ReadAnswer)) → channel s p t o ≡ Ok a → P a
  unfolding channel
  channel_left is a q =
      let c = check_got _ _ _ _ q in
      let g = check_got _ _ _ _ c.1 in
      ⊎_elim
      (λ v. let (x, r, e) = then_got _ _ _ v.1 in subst P (got_got _ _ e) (h.flushes is x r))
      (λ v. subst P (got_got _ _ v.1) h.other)
      (pick_got _ _ _ _ g.1)

  delivery_left : nicknames_good s p.header ≡ true → individual (num p.src) ≡ true → (a : OnBoth (Outcome ReadAnswer)) → delivery (native_out m p) life s p t o ≡ Ok a → P a
  unfolding delivery
  delivery_left n i a q =
      let c = check_got _ _ _ _ q in
      let (b, made, k) = then_got _ _ _ c.1 in
      let r = check_got _ _ _ _ k in
      subst P (got_got _ _ r.1) (h.delivers n i b made)

  acted_left : (a : OnBoth (Outcome ReadAnswer)) → acted m life s p t o ≡ Ok a → P a
  unfolding acted
  acted_left a q =
      let c = check_got _ _ _ _ q in
      let n = check_got _ _ _ _ c.1 in
      let i = check_got _ _ _ _ n.1 in
      ⊎_elim
      (λ v. subst P (got_got _ _ v.1) h.onward)
      (λ v.
      ⊎_elim
      (λ w. channel_left w.0 a w.1)
      (λ w. delivery_left n.0 i.0 a w.1)
      (pick_got _ _ _ _ v.1))
      (pick_got _ _ _ _ i.1)

-- the outcome of the call: refused, or one of those
module _ (m : List ℕ) (life : ℕ) (s : Settings) (fields : Outcome Fields) (t o : List ℕ) (P : OnBoth (Outcome ReadAnswer) → Type 0)
    (h : (p : Fields) → settings_good s ≡ true → table_good t ≡ true → fields ≡ Ok p → Holds m life s p t o P) where
  pub reading_left : (a : OnBoth (Outcome ReadAnswer)) → reading m life s fields t o ≡ Ok a → P a
  unfolding reading
  reading_left a q =
      let c = check_got _ _ _ _ q in
      let d = check_got _ _ _ _ c.1 in
      let g = check_got _ _ _ _ d.1 in
      let (p, r, k) = then_got _ _ _ g.1 in
      acted_left m life s p t o P (h p c.0 d.0 r) a k

pub settled_left : {A : Type 0} (P : A → Type 0) (leave : Refusal → A) (r : Outcome A) → ((n : Refusal) → P (leave n)) → ((a : A) → r ≡ Ok a → P a) → P (settled leave r)
unfolding settled
settled_left P leave (Err n) f g = f n
settled_left P leave (Ok a) f g = g a refl

-- a frame with our own ingress nickname teaches nothing, another its source
module _ (life : ℕ) (s : Settings) (p : Fields) (t : List ℕ) where
  pub own_taught : is_own s (ingress_of p.header) ≡ true → taught life s p t ≡ on_table Kept t
  unfolding taught pick
  own_taught own = rw own

  pub other_taught : is_own s (ingress_of p.header) ≡ false → taught life s p t ≡ learnt (learned_entry life s p) t
  unfolding taught pick
  other_taught other = rw other

  -- so the table is the one that came or one that learned
  pub taught_left : (P : List ℕ → Type 0) → P t → P (learnt (learned_entry life s p) t).table → P (taught life s p t).table
  taught_left P same learns = go (is_own s (ingress_of p.header)) refl
    where
      go : (own : Bool) → is_own s (ingress_of p.header) ≡ own → P (taught life s p t).table
      go true e = rw (own_taught e) same
      go false e = rw (other_taught e) learns

-- two answers that differ make any two numbers equal
pub apart : {C : Type 0} → ◌≡◌ {A = ℕ} 0 1 → C
apart e = absurd (omega arith)

count_same : (a b : ℕ) → ◌≡◌ {A = Outcome ReadAnswer} (Ok (Flushed a)) (Ok (Flushed b)) → a ≡ b
count_same a b e = cc

flushed_same : (a b : ℕ) → ◌≡◌ {A = Outcome ℕ} (Ok a) (Ok b) → a ≡ b
flushed_same a b e = cc

-- ---- refusals

not_refused : (m : List ℕ) (life : ℕ) (s : Settings) (p : Fields) (t o : List ℕ) (n : Refusal) → Holds m life s p t o (λ a. a.answer ≡ Err n → (a.table ≡ t) × (a.out ≡ o))
not_refused m life s p t o n = record {
  onward = λ e. (refl, refl);
  other = λ e. (refl, refl);
  flushes = λ is c q e. let z : ◌≡◌ {A = ℕ} 0 1 = cc in absurd (omega arith);
  delivers = λ a b c q e. let z : ◌≡◌ {A = ℕ} 0 1 = cc in absurd (omega arith);
}

pub read_refusal : ReadRefusal
unfolding port_received received_with
read_refusal s m f t o n =
    settled_left (λ (a : OnBoth (Outcome ReadAnswer)). a.answer ≡ Err n → (a.table ≡ t) × (a.out ≡ o)) (λ k. on_both (Err k) t o) (reading m default_life s (parsed s f) t o)
    (λ k e. (refl, refl))
    (reading_left m default_life s (parsed s f) t o _ (λ p g d q. not_refused m default_life s p t o n))

-- ---- no pair twice

-- the label of an accepted frame is good
parts_label : (p : Fields) → Good p → label_good (label_read p.label) ≡ true
parts_label p g =
    rw (take-append_seam p.label []) at (labels_good (p.label ++ []) (length p.label) (g.label []))

fronts_good : (on : Bool) (d : Front) (f : List ℕ) (p : Fields) → by_front on d f ≡ Ok p → Good p
unfolding by_front
fronts_good on unicast f p q = (general_is unicast f p q).good
fronts_good on multicast f p q = (general_is multicast f p q).good
fronts_good on refused_front f p q = refused_got _ p q
fronts_good on inner f p q =
    ⊎_elim
    (λ v. (compact_is f p v.1).good)
    (λ v. refused_got _ p v.1)
    (pick_got _ _ _ _ q)

parsed_good : (s : Settings) (f : List ℕ) (p : Fields) → parsed s f ≡ Ok p → Good p
unfolding parsed
parsed_good s f p q = fronts_good (compact_on s) (front_of s (address_in f)) f p (check_got _ _ _ _ q).1

-- the seconds that a good setting gives fit their bits
life_fits : (n life : ℕ) (b : Bool) → eqb n 0 ≡ b → life < 2 ^ 13 → seconds_good n ≡ true → pick b life n < 2 ^ 13
unfolding seconds_good either pick
life_fits n life true e h g = h
life_fits n life false e h g = let k = between_is 10 8191 n (rw e at g) in omega arith

entry_good_lem : (l : Label) (m n c k : ℕ) (mark : Bool) → label_good l ≡ true → individual m ≡ true → nickname_good n ≡ true → entry_good (record { label = l; mac = m; nickname = n; confidence = c; seconds = k; multihomed = mark }) ≡ true
unfolding entry_good
entry_good_lem l m n c k mark a b d = both_pass _ _ a (both_pass _ _ b d)

-- confidence and seconds of good settings fit their bits
pub settings_fit : (life : ℕ) (s : Settings) → life < 2 ^ 13 → settings_good s ≡ true → (s.confidence ≤ 255) × (life_of life s < 2 ^ 13)
unfolding settings_good numbers_good
settings_fit life s small set =
    let a = both_true (addresses_good s) _ set in
    let n = both_true (numbers_good s) (later_good s) a.1 in
    let b = both_true (nickname_good s.nickname) _ n.0 in
    let c = both_true (leb s.compact 1) _ b.1 in
    let d = both_true (leb s.confidence 255) (seconds_good s.seconds) c.1 in
    (leb-true s.confidence 255 d.0, life_fits s.seconds life (eqb s.seconds 0) refl small d.1)

learned_sound : (life : ℕ) (s : Settings) (p : Fields) → life < 2 ^ 13 → settings_good s ≡ true → Good p → nicknames_good s p.header ≡ true → individual (num p.src) ≡ true → Sound (learned_entry life s p)
unfolding learned_entry nicknames_good
learned_sound life s p small set g n i =
    let d = settings_fit life s small set in
    let e = both_true (nickname_good (egress_of p.header)) _ n in
    let k = both_true (nickname_good (ingress_of p.header)) (ingress_allowed s (ingress_of p.header)) e.1 in
    let m = d.0 in
    record {
      good = entry_good_lem (label_read p.label) (num p.src) (ingress_of p.header) s.confidence (life_of life s) (is_marked s p.header) (parts_label p g) i k.0;
      confidence_fits = omega arith;
      seconds_fit = d.1;
    }

keeps_apart : (m : List ℕ) (life : ℕ) (s : Settings) (p : Fields) (t o : List ℕ) → life < 2 ^ 13 → settings_good s ≡ true → Good p → Apart t → Holds m life s p t o (λ a. Apart a.table)
keeps_apart m life s p t o small set g u = record {
  onward = u;
  other = u;
  flushes = λ is c q. clearing-apart (ingress_of p.header) (channel_payload p.content) t c q u;
  delivers = λ n i b made. taught_left life s p t Apart u (learning_apart (learned_entry life s p) (learned_sound life s p small set g n i) t u);
}

pub reading-apart : ReadingKeepsApart
unfolding port_received received_with
reading-apart s m f t o u =
    settled_left (λ (a : OnBoth (Outcome ReadAnswer)). Apart a.table) (λ k. on_both (Err k) t o) (reading m default_life s (parsed s f) t o)
    (λ k. u)
    (reading_left m default_life s (parsed s f) t o _ (λ p set d q. keeps_apart m default_life s p t o (omega arith) set (parsed_good s f p q) u))

-- ---- spoilt and configured records

pub reading_leaves_alone : ReadingLeavesAlone
unfolding port_received received_with
reading_leaves_alone s m f t o =
    settled_left (λ (a : OnBoth (Outcome ReadAnswer)). LeavesAlone t a.table) (λ k. on_both (Err k) t o) (reading m default_life s (parsed s f) t o)
    (λ k. same)
    (reading_left m default_life s (parsed s f) t o _ (λ p set d q.
    record {
      onward = same;
      other = same;
      flushes = λ is c r. clearing_leaves_alone (ingress_of p.header) (channel_payload p.content) t c r;
      delivers = λ n i b made. taught_left default_life s p t (LeavesAlone t) same (learning_leaves_alone (learned_entry default_life s p) t);
    }))
  where
    same : LeavesAlone t t
    same = record { spoilt = λ k h e. refl; configured = λ k h e. refl }

-- ---- a flush in a frame

module _ (ingress : ℕ) (l t : List ℕ) (c : OnTable ℕ) (good : table_good t ≡ true) (q : clearing every_type ingress l t ≡ Ok c) where
  flush_called : flushed ingress l t ≡ on_table (Ok c.answer) c.table
  unfolding flushed settled check and_then
  flush_called = rw (good, q)

flush_read : (s : Settings) (f t : List ℕ) (p : Fields) (c : OnTable ℕ) → parsed s f ≡ Ok p → table_good t ≡ true → clearing every_type (ingress_of p.header) (channel_payload p.content) t ≡ Ok c
    → FlushRead s f t c.table c.answer
unfolding clearing
flush_read s f t p c read good q =
    let (x, valid, e) = then_got _ _ _ q in
    let called = flush_called (ingress_of p.header) (channel_payload p.content) t c good q in
    let exact = flush_exact.flush (ingress_of p.header) (channel_payload p.content) t x good valid in
    record {
      fields = p;
      read = read;
      call = called;
      payload = x;
      valid = valid;
      each = λ k h. rw called at (exact.each k h);
      same_length = rw called at exact.same_length;
      count = flushed_same _ _ (rw called at exact.count);
    }

pub read_flush_exact : ReadFlushExact
unfolding port_received received_with
read_flush_exact s m f t o n =
    settled_left (λ (a : OnBoth (Outcome ReadAnswer)). a.answer ≡ (Ok (Flushed n)) → FlushRead s f t a.table n × (a.out ≡ o)) (λ k. on_both (Err k) t o) (reading m default_life s (parsed s f) t o)
    (λ k e. apart cc)
    (reading_left m default_life s (parsed s f) t o _ (λ p set d q.
    record {
      onward = λ e. apart cc;
      other = λ e. apart cc;
      flushes = λ is c r e. (subst (FlushRead s f t c.table) (count_same _ _ e) (flush_read s f t p c q d r), refl);
      delivers = λ a b c q e. apart cc;
    }))

-- ---- the label of the answer

pub read_fits : (s : Settings) (m f t o : List ℕ) → LabelFits (port_received s m f t o).answer
unfolding port_received received_with
read_fits s m f t o =
    settled_left (λ (a : OnBoth (Outcome ReadAnswer)). LabelFits a.answer) (λ k. on_both (Err k) t o) (reading m default_life s (parsed s f) t o)
    (λ k. tt)
    (reading_left m default_life s (parsed s f) t o _ (λ p set d q.
    record {
      onward = tt;
      other = tt;
      flushes = λ is c r. tt;
      delivers = λ n i b made. label_fits (label_read p.label) (parts_label p (parsed_good s f p q));
    }))
