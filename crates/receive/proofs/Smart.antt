-- Smart Endnodes. Off, a frame with our own ingress nickname is refused before it could teach, so nothing is left to compare; on, a
-- frame with another ingress nickname passes the same tests and teaches the same.
-- Assumes nothing.
use Prim.Native.Nat.{ℕ}
use mathlib.Core.Bool.{Bool, true, false, not}
use mathlib.Core.List.{List}
use mathlib.Core.Path.{◌≡◌, refl, sym, ap, subst, ◌∙◌}
use lib.Dec.{leb, eqb}
use lib.ListN.{length}
use Rattle.numbers.specs.Tests.{pick, both, either}
use Rattle.numbers.specs.Result.{Outcome, check, and_then}
use Rattle.numbers.specs.After.{on_table, OnBoth, on_both}
use Rattle.numbers.specs.Bytes.{num}
use Rattle.numbers.specs.Ranges.{individual, nickname_good}
use Rattle.numbers.proofs.Answers.{got_got}
use Rattle.table.specs.Learning.{learnt}
use Rattle.table.specs.declared.Label.{Label}
use Rattle.table.specs.declared.Learning.{Learning}
use Rattle.table.specs.declared.Learning.TheVariants.{Kept}
use Rattle.frame.specs.Settings.{addresses_good, numbers_good, later_good, settings_good, default_life}
use Rattle.frame.specs.Front.{trill_group, front_of}
use Rattle.frame.specs.Header.{hop_count, egress_of, ingress_of}
use Rattle.frame.specs.Labels.{is_channel}
use Rattle.frame.specs.Fields.{Fields}
use Rattle.frame.specs.Formats.{parsed}
use Rattle.frame.specs.declared.Settings.{Settings}
use Rattle.receive.specs.Deciding.{is_own, is_marked, ingress_allowed, nicknames_good, is_onward, channel_good}
use Rattle.receive.specs.Delivering.{native_out}
use Rattle.receive.specs.Receive.{learned_entry, taught, delivered_with, delivery, channel, acted, reading, received_with, port_received}
use Rattle.receive.specs.Before.{nicknames_good_before, delivery_before, acted_before, received_before}
use Rattle.receive.proofs.Outcomes.{Holds, reading_left, settled_left, own_taught, apart}
use Rattle.receive.specs.Claims.{with_smart, SmartPort}
use Rattle.receive.specs.declared.ReadAnswer.{ReadAnswer}
use Rattle.receive.specs.declared.ReadAnswer.TheVariants.{Onward, Delivered}
use Rattle.std.specs.Prelude.{Ok, Err}
use Rattle.numbers.specs.declared.refusals.Refusal.TheVariants.{HopsSpent, NicknameBad, SourceGroup, NotChannel, AreaShort}

-- ---- off

module _ (s : Settings) (m : List ℕ) (p : Fields) (t o : List ℕ) where
  -- what follows 9, by whether the ingress nickname is our own
  abbrev after : Bool → Outcome (OnBoth (Outcome ReadAnswer))
  after own =
      check (individual (num p.src)) SourceGroup
      (pick (is_onward s p.header)
      (Ok (on_both (Ok Onward) t o))
      (pick (is_channel p.content)
      (channel s p t o)
      (check (not (trill_group (num p.dst))) NotChannel
      (and_then (native_out m p) λ b.
      check (leb (length b) (length o)) AreaShort
      (Ok (delivered_with p b o (pick own (on_table Kept t) (learnt (learned_entry default_life s p) t))))))))

  -- our own is refused with 9
  own_refused : (own e i : Bool) → check (both e (both i (not own))) NicknameBad (after own) ≡ check (both e (both i (not own))) NicknameBad (after false)
  unfolding check both
  own_refused false e i = refl
  own_refused true false i = refl
  own_refused true true false = refl
  own_refused true true true = refl

acted_off : (s : Settings) (m : List ℕ) (p : Fields) (t o : List ℕ) → acted m default_life (with_smart 0 s) p t o ≡ acted_before m (with_smart 0 s) p t o
unfolding acted acted_before delivery delivery_before taught nicknames_good nicknames_good_before ingress_allowed either pick
acted_off s m p t o =
    ap (check (not (eqb (hop_count p.header) 0)) HopsSpent)
    (own_refused (with_smart 0 s) m p t o (is_own s (ingress_of p.header)) (nickname_good (egress_of p.header)) (nickname_good (ingress_of p.header)))

then_same : {A B : Type 0} (r : Outcome A) (f g : A → Outcome B) → ((a : A) → f a ≡ g a) → and_then r f ≡ and_then r g
unfolding and_then
then_same (Err n) f g same = refl
then_same (Ok a) f g same = same a

reading_off : (s : Settings) (m f t o : List ℕ) → port_received (with_smart 0 s) m f t o ≡ received_before (with_smart 0 s) m f t o
unfolding port_received received_with reading received_before
reading_off s m f t o = rw (then_same (parsed (with_smart 0 s) f) (λ p. acted m default_life (with_smart 0 s) p t o) (λ p. acted_before m (with_smart 0 s) p t o) (λ p. acted_off s m p t o))

-- ---- on

-- a frame with another ingress nickname
module _ (s : Settings) (m : List ℕ) (p : Fields) (t o : List ℕ) (other : is_own s (ingress_of p.header) ≡ false) where
  acted_other : acted m default_life (with_smart 1 s) p t o ≡ acted m default_life (with_smart 0 s) p t o
  unfolding acted delivery taught nicknames_good ingress_allowed is_onward learned_entry is_marked channel channel_good either
  acted_other = rw other

-- the settings bear on nothing else
module _ (s : Settings) (m f t o : List ℕ) (r : Outcome Fields) (is : parsed s f ≡ r) where
  reading_on : and_then r (λ p. acted m default_life (with_smart 1 s) p t o) ≡ and_then r (λ p. acted m default_life (with_smart 0 s) p t o) → port_received (with_smart 1 s) m f t o ≡ port_received (with_smart 0 s) m f t o
  unfolding port_received received_with reading parsed front_of settings_good addresses_good numbers_good later_good both
  reading_on same = rw (is, same)

-- ---- our own

learning_same : (l k : Learning) (n j : ℕ) (b c : Label) → ◌≡◌ {A = Outcome ReadAnswer} (Ok (Delivered l n b)) (Ok (Delivered k j c)) → l ≡ k
learning_same l k n j b c e = cc

module _ (s : Settings) (m : List ℕ) (p : Fields) (t o : List ℕ) (l : Learning) (n : ℕ) (b : Label) (own : is_own s (ingress_of p.header) ≡ true) where
  own_left : Holds m default_life s p t o (λ a. a.answer ≡ (Ok (Delivered l n b)) → (l ≡ Kept) × (a.table ≡ t))
  own_left = record {
    onward = λ e. apart cc;
    other = λ e. apart cc;
    flushes = λ is c q e. apart cc;
    delivers = λ good i w made. rw (own_taught default_life s p t own) (λ e. (learning_same _ _ _ _ _ _ (sym e), refl));
  }

own_kept : (s : Settings) (m f t o : List ℕ) (p : Fields) (l : Learning) (n : ℕ) (b : Label) → parsed s f ≡ Ok p → is_own s (ingress_of p.header) ≡ true → (port_received s m f t o).answer ≡ (Ok (Delivered l n b))
    → (l ≡ Kept) × ((port_received s m f t o).table ≡ t)
unfolding port_received received_with
own_kept s m f t o p l n b is own =
    settled_left (λ (a : OnBoth (Outcome ReadAnswer)). a.answer ≡ (Ok (Delivered l n b)) → (l ≡ Kept) × (a.table ≡ t)) (λ k. on_both (Err k) t o) (reading m default_life s (parsed s f) t o)
    (λ k e. apart cc)
    (reading_left m default_life s (parsed s f) t o _ (λ q set d r. own_left s m q t o l n b (subst (λ (x : Fields). is_own s (ingress_of x.header) ≡ true) (got_got p q (sym is ∙ r)) own)))

pub smart_port : SmartPort
unfolding and_then
smart_port = record {
  off = reading_off;
  refused_alike = λ s m f t o n is. reading_on s m f t o (Err n) is refl;
  others_alike = λ s m f t o p is other. reading_on s m f t o (Ok p) is (acted_other s m p t o other);
  own_kept = own_kept;
}
