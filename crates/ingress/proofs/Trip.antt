-- MapRoundTrip: the far port reads the fields that ingress wrote; its map gives the VLAN of their label back; and what is written is the
-- native frame with DEI 0. Compacted for the far port in between, the frame is read as before (ReadsSame), and with Compact off not at all.
-- Assumes nothing.
use Prim.Native.Nat.{ℕ, ◌/◌, ◌%◌, ◌^◌, ◌<◌, ◌≤◌}
use native.Mathlib.Omega.{arith}
use mathlib.Core.Bool.{Bool, true, false}
use mathlib.Core.List.{List, [], ◌∷◌, ◌++◌}
use mathlib.Core.Logic.{⊎_elim}
use mathlib.Core.Path.{◌≡◌, refl, sym, ap, ◌∙◌, subst}
use lib.Dec.{eqb}
use lib.ListN.{length, take, drop, length-drop}
use lib.Seq.{length-take-le, take-append_seam}
use borrow.Author.Tests.{leb-true, ne_eqb}
use Rattle.numbers.specs.Tests.{pick, either}
use Rattle.numbers.specs.Result.{and_then, Outcome}
use Rattle.numbers.specs.After.{OnBoth, on_both}
use Rattle.numbers.specs.Bytes.{AreBytes, laid}
use Rattle.numbers.proofs.Answers.{check_got, pick_got, got_got, refused_got}
use Rattle.numbers.proofs.Bytes.{num_part_lt}
use Rattle.numbers.proofs.Truth.{both_true, between_is}
use Rattle.table.specs.declared.Label.{Label}
use Rattle.table.specs.declared.Learning.{Learning}
use Rattle.frame.specs.Front.{inner, address_in, front_of}
use Rattle.frame.specs.Header.{word_at}
use Rattle.frame.specs.Labels.{is_tag, low12}
use Rattle.frame.specs.Fields.{Fields}
use Rattle.frame.specs.Formats.{by_front, parsed}
use Rattle.frame.specs.Settings.{compact_on, default_life}
use Rattle.frame.specs.declared.Settings.{Settings}
use Rattle.convert.specs.Compaction.{compacted}
use Rattle.convert.specs.Claims.{converted}
use Rattle.convert.proofs.Compacting as compacting
use Rattle.convert.proofs.Fronts.{stays_inner}
use Rattle.port_map.specs.Maps.{port_vlan, pairs_in, pairs_good, map_good, label_for, vlan_for}
use Rattle.port_map.proofs.Searches.{search_inverse, label_found_fits}
use Rattle.port_map.proofs.Steps.{pairs_end}
use Rattle.port_map.specs.declared.CampusLabel.{CampusLabel}
use Rattle.receive.specs.Delivering.{fine_in, stays, native_out}
use Rattle.receive.specs.Receive.{reading, received_with, port_received}
use Rattle.receive.specs.declared.ReadAnswer.{ReadAnswer}
use Rattle.receive.specs.declared.ReadAnswer.TheVariants.{Delivered}
use Rattle.receive.proofs.Outcomes.{reading_left, settled_left, apart}
use Rattle.ingress.specs.Ingress.{Native, given_good, hops_good, native_of, fields_for, general_for}
use Rattle.ingress.specs.declared.Given.{Given}
use Rattle.ingress.specs.Claims.{without_dei, RoundTrip, MapRoundTrip}
use Rattle.ingress.proofs.Back.{fine_back, not_tag, tag_back, dei_length}
use Rattle.ingress.proofs.Accepted.{NativeIs, Accepted, accepted}
use Rattle.ingress.proofs.Far.{reads_only}
use Rattle.std.specs.Prelude.{Ok, Err}
use Rattle.numbers.specs.declared.refusals.Refusal.TheVariants.{NoPair}

length_same : (c d : Learning) (a b : ℕ) (k l : Label) → ◌≡◌ {A = Outcome ReadAnswer} (Ok (Delivered c a k)) (Ok (Delivered d b l)) → a ≡ b
length_same c d a b k l e = cc

either_no : (a b : Bool) → a ≡ false → b ≡ false → either a b ≡ false
unfolding either
either_no a b x y = rw (x, y)

module _ (m : List ℕ) (u : Given) (f g : List ℕ) (bytes : AreBytes f) (a : Accepted m u f g) where
  abbrev l : CampusLabel
  l = a.label

  facts : NativeIs f a.native
  facts = a.native_facts

  from_frame : general_for u (native_of f) l ≡ g
  from_frame = ap (λ (n : Native). general_for u n l) facts.same ∙ a.bytes

  found : label_for (pairs_in m) (port_vlan (low12 14 f)) ≡ Ok l
  found = ap (λ (n : Native). label_for (pairs_in m) n.vlan) facts.same ∙ a.found

  pairs_good_lem : pairs_good (pairs_in m) ≡ true
  unfolding map_good
  pairs_good_lem = (both_true (eqb (length m % 6) 0) (pairs_good (pairs_in m)) a.map-good).1

  small : l.0 ≤ 0xFF_FFFF
  small = leb-true l.0 0xFF_FFFF (label_found_fits (pairs_in m) (port_vlan (low12 14 f)) l pairs_good_lem found)

  -- where a label was found there are pairs
  some_pairs : length m ≡ 0 → ⊥
  unfolding label_for
  some_pairs z = refused_got NoPair l (ap (λ ps. label_for ps (port_vlan (low12 14 f))) (sym (pairs_end m (omega arith))) ∙ found)

  three : word_at 14 f / 2 ^ 13 < 8
  three = let x : word_at 14 f < 256 ^ 2 = num_part_lt f 14 2 bytes facts.long in omega arith

  not_stays : stays m (fields_for u (native_of f) l) ≡ false
  unfolding stays fields_for
  not_stays = either_no _ _ (ne_eqb (length m) 0 some_pairs) (subst (λ x. is_tag x ≡ false) (append_none _) (not_tag (word_at 14 f / 2 ^ 13) l []))
    where
      append_none : (x : List ℕ) → x ++ [] ≡ x
      append_none [] = refl
      append_none (b ∷ x) = ap (λ (r : List ℕ). b ∷ r) (append_none x)

  label_back : fine_in (fields_for u (native_of f) l).label ≡ l
  unfolding fields_for
  label_back = fine_back (word_at 14 f / 2 ^ 13) l three small

  -- what the far port writes
  gives_back : native_out m (fields_for u (native_of f) l) ≡ Ok (without_dei f)
  unfolding native_out pick and_then
  gives_back =
      let back : vlan_for (pairs_in m) l ≡ Ok (port_vlan (low12 14 f)) = search_inverse.there (pairs_in m) (port_vlan (low12 14 f)) l pairs_good_lem found in
      rw (not_stays, label_back, back) (ap Ok (tag_back f bytes facts.long facts.tagged u l small))

  trip_done : (p : Fields) → fields_for u (native_of f) l ≡ p → (b o : List ℕ) → native_out m p ≡ Ok b → (n : ℕ) → length b ≡ n → RoundTrip f (laid b o) n
  unfolding laid
  trip_done p e b o made n long =
      let is : without_dei f ≡ b = got_got _ _ (sym gives_back ∙ ap (native_out m) e ∙ made) in
      let k : length (without_dei f) ≡ length f = dei_length f bytes facts.long facts.tagged in
      record {
        same_length = sym long ∙ ap length (sym is) ∙ k;
        bytes = ap (λ (x : ℕ). take x (b ++ drop (length b) o)) (sym long) ∙ take-append_seam b (drop (length b) o) ∙ sym is;
      }

  -- what was read of the frame, in whatever form it came
  module _ (far : Settings) (h t o : List ℕ) (reads : (p : Fields) → parsed far h ≡ Ok p → fields_for u (native_of f) l ≡ p) where
    trip : (c : Learning) (n : ℕ) (k : Label) → (port_received far m h t o).answer ≡ (Ok (Delivered c n k)) → RoundTrip f (port_received far m h t o).out n
    unfolding port_received received_with
    trip c n k =
        settled_left (λ (x : OnBoth (Outcome ReadAnswer)). x.answer ≡ (Ok (Delivered c n k)) → RoundTrip f x.out n) (λ r. on_both (Err r) t o) (reading m default_life far (parsed far h) t o)
        (λ r e. apart cc)
        (reading_left m default_life far (parsed far h) t o _ (λ p set d q.
        record {
          onward = λ e. apart cc;
          other = λ e. apart cc;
          flushes = λ is x r e. apart cc;
          delivers = λ x y b made e. trip_done p (reads p q) b o made n (length_same _ c _ n _ k e);
        }))

  read_general : (far : Settings) (p : Fields) → parsed far g ≡ Ok p → fields_for u (native_of f) l ≡ p
  unfolding given_good hops_good
  read_general far p q =
      let x = both_true _ _ (both_true _ _ a.given).1 in
      let y = between_is 1 63 u.hops a.hops in
      let d = length-drop 6 f in
      let long = facts.long in
      reads_only u (leb-true u.multicast 1 x.1) y.1 (native_of f) l (length-take-le 6 f (omega arith)) (length-take-le 6 (drop 6 f) (omega arith)) facts.some far p (ap (parsed far) from_frame ∙ q)

-- a frame that compaction made is read only with Compact on
on_only : (s : Settings) (g h work : List ℕ) (p : Fields) → converted (compacted s g work) ≡ Ok h → parsed s h ≡ Ok p → compact_on s ≡ true
unfolding parsed by_front
on_only s g h work p c q =
    let a = compacting.accepted s g h work c in
    let front : front_of s (address_in h) ≡ inner = ap (λ (x : List ℕ). front_of s (address_in x)) (sym a.bytes) ∙ ap (front_of s) (compacting.front_parts_lem a.parts a.read.good) ∙ stays_inner s _ a.may in
    let r = rw front at (check_got _ _ _ _ q).1 in
    ⊎_elim (λ v. v.0) (λ v. refused_got _ p v.1) (pick_got _ _ _ _ r)

pub map_round_trip : MapRoundTrip
map_round_trip = record {
  general = λ near far m u f g area t o c n l bytes e d.
      let a = accepted near m u f g area e in
      trip m u f g bytes a far g t o (read_general m u f g bytes a far) c n l d;
  compact = λ near far m u f g h area work t o c n l bytes e k d.
      let a = accepted near m u f g area e in
      trip m u f g bytes a far h t o (λ p q. read_general m u f g bytes a far p (sym (compacting.reads_same far g h work (on_only far g h work p k q) k) ∙ q)) c n l d;
}
