-- A port reads what ingress wrote as the fields it was made of, or not at all: as General there is but one reading, and as Compact 22F3
-- stands where a label should.
-- Assumes nothing.
use Prim.Native.Nat.{ℕ, ◌≤◌}
use mathlib.Core.Bool.{Bool, true, false}
use mathlib.Core.List.{List, ◌++◌}
use mathlib.Core.Logic.{⊎_elim}
use mathlib.Core.Path.{◌≡◌, refl, sym, ap, ◌∙◌}
use lib.ListN.{length, drop}
use Rattle.numbers.specs.Tests.{both}
use Rattle.numbers.specs.Bytes.{bytes_of, starts_with}
use Rattle.numbers.proofs.Answers.{check_got, pick_got, then_got, got_got, refused_got}
use Rattle.numbers.proofs.Truth.{false_true}
use Rattle.frame.specs.Front.{Front, unicast, multicast, refused_front, inner, address_in, front_of}
use Rattle.frame.specs.Header.{multicast_of, agrees}
use Rattle.frame.specs.Labels.{is_tag, label_length}
use Rattle.frame.specs.Fields.{Fields}
use Rattle.frame.specs.Formats.{outer_length, general_after, general, compact, by_front, parsed}
use Rattle.frame.specs.Settings.{compact_on}
use Rattle.frame.specs.declared.Settings.{Settings}
use Rattle.frame.proofs.Local.{header_is}
use Rattle.convert.specs.Expansion.{general_tail}
use Rattle.port_map.specs.declared.CampusLabel.{CampusLabel}
use Rattle.ingress.specs.Ingress.{Native, header_of, fields_for, general_for}
use Rattle.ingress.specs.declared.Given.{Given}
use Rattle.ingress.proofs.Back.{ingress_reads}
use Rattle.std.specs.Prelude.{Ok}

module _ (u : Given) (m : u.multicast ≤ 1) (h : u.hops ≤ 63) (n : Native) (l : CampusLabel) (six-d : length n.dst ≡ 6) (six-s : length n.src ≡ 6)
    (some : 2 ≤ length n.content) where
  abbrev g : List ℕ
  g = general_for u n l

  -- after the outer addresses and 22F3
  abbrev rest : List ℕ
  rest = header_of u ++ (n.dst ++ (n.src ++ ((fields_for u n l).label ++ n.content)))

  behind : drop 14 g ≡ rest
  unfolding general_for general_tail fields_for bytes_of
  behind = refl

  no_tag : is_tag (drop 12 g) ≡ false
  unfolding general_for general_tail bytes_of starts_with both
  no_tag = refl

  no_label : (k : ℕ) → label_length (drop 6 (drop 6 g)) ≡ Ok k → false ≡ true
  unfolding label_length general_for general_tail bytes_of starts_with both
  no_label k q =
      let a = check_got _ _ _ _ q in
      ⊎_elim
      (λ v. v.0)
      (λ v. (check_got _ _ _ _ v.1).0)
      (pick_got _ _ _ _ a.1)

  same_word : multicast_of rest ≡ multicast_of (fields_for u n l).header
  unfolding header_of fields_for bytes_of
  same_word = refl

  outer_fourteen : (o : ℕ) → outer_length g ≡ Ok o → o ≡ 14
  unfolding outer_length
  outer_fourteen o q =
      let a = check_got _ _ _ _ q in
      ⊎_elim
      (λ v. false_true (sym no_tag ∙ v.0))
      (λ v. sym (got_got _ _ (check_got _ _ _ _ v.1).1))
      (pick_got _ _ _ _ a.1)

  as_general : (d : Front) (p : Fields) → general d g ≡ Ok p → fields_for u n l ≡ p
  unfolding general general_after
  as_general d p q =
      let (o, oq, r) = then_got _ _ _ q in
      let e : o ≡ 14 = outer_fourteen o oq in
      let (k, kq, w) = then_got _ _ _ r in
      let i = header_is d (drop o g) k kq in
      let a : agrees d (multicast_of (fields_for u n l).header) ≡ true = ap (agrees d) (sym (ap multicast_of (ap (λ (x : ℕ). drop x g) e ∙ behind) ∙ same_word)) ∙ i.multicast in
      got_got _ _ (sym (ingress_reads u m h n l six-d six-s some d a) ∙ q)

  by_front_lem : (on : Bool) (d : Front) (p : Fields) → by_front on d g ≡ Ok p → fields_for u n l ≡ p
  unfolding by_front compact
  by_front_lem on unicast p q = as_general unicast p q
  by_front_lem on multicast p q = as_general multicast p q
  by_front_lem on refused_front p q = refused_got _ p q
  by_front_lem on inner p q =
      ⊎_elim
      (λ v.
      let a = check_got _ _ _ _ v.1 in
      let b = check_got _ _ _ _ a.1 in
      let (k, kq, w) = then_got _ _ _ b.1 in
      false_true (no_label k kq))
      (λ v. refused_got _ p v.1)
      (pick_got _ _ _ _ q)

  pub reads_only : (s : Settings) (p : Fields) → parsed s g ≡ Ok p → fields_for u n l ≡ p
  unfolding parsed
  reads_only s p q = by_front_lem (compact_on s) (front_of s (address_in g)) p (check_got _ _ _ _ q).1
