-- Each outcome of expansion, from facts as the code finds them.
-- Assumes nothing.
use Prim.Native.Nat.{ℕ, ◌+◌, ◌-◌, ◌≤◌}
use mathlib.Core.Bool.{Bool, true, false}
use mathlib.Core.List.{List, append_assoc}
use mathlib.Core.Path.{◌≡◌, refl, sym, ap, ◌∙◌}
use native.Mathlib.Omega.{arith}
use lib.Dec.{leb}
use lib.ListN.{length, take, drop}
use borrow.Author.Tests.{leb-true, leb-false, eq-eqb, ne_eqb}
use Rattle.numbers.specs.Tests.{pick, both, between}
use Rattle.numbers.specs.Result.{Outcome, check, and_then, settled}
use Rattle.numbers.specs.After.{on_area}
use Rattle.numbers.specs.Bytes.{num}
use Rattle.numbers.proofs.Truth.{both_true, both_pass, both_left, both_right, between_in, between_is, between_below, between_above}
use Rattle.numbers.proofs.Answers.{check_got}
use Rattle.frame.specs.Front.{all_rbridges}
use Rattle.frame.specs.Header.{multicast_of}
use Rattle.frame.specs.Fields.{Fields}
use Rattle.frame.specs.Formats.{tagged_addresses, shortest_frame, longest_frame, frame_length_good, compact}
use Rattle.frame.specs.declared.Settings.{Settings}
use Rattle.frame.proofs.Parts.{compact_is}
use Rattle.frame_fields.specs.Meaning.{front_as, front_at}
use Rattle.frame_fields.specs.declared.Front.{Front}
use Rattle.frame_fields.specs.declared.Front.TheVariants as front
use Rattle.frame_parse.specs.Meaning.{fields_in, PartsOf, Reads}
use Rattle.frame_parse.specs.declared.Parts.{Parts}
use Rattle.frame_parse.proofs.Outcomes.{front_at_lem}
use Rattle.frame_parse.proofs.Located.{header_word}
use Rattle.convert.specs.Compaction.{compact_bytes}
use Rattle.convert.specs.Expansion as spec
use Rattle.convert.proofs.Fronts as fronts
use Rattle.convert_compact.specs.Meaning.{compact_length, put_on}
use Rattle.convert_compact.proofs.Laws.{compact_long}
use Rattle.convert_expand.specs.Meaning.{outer_good, lengths_good, compact_fields, destination_of, outer_front, general_to}
use Rattle.std.specs.Prelude.{Ok, Err}
use Rattle.numbers.specs.declared.refusals.Refusal.TheVariants.{SettingsBad, FrameLengthBad, NotForPort, NotCompact}
use Rattle.numbers.specs.declared.refusals.Refusal.{Refusal}

-- ---- both lengths

module _ (n more : ℕ) (few : more ≤ tagged_addresses) where
  lengths_cases : (a b : Bool) → leb shortest_frame n ≡ a → leb n (longest_frame - more) ≡ b → both a b ≡ lengths_good n more
  unfolding lengths_good frame_length_good both
  lengths_cases true true p q =
      let lo = leb-true shortest_frame n p in
      let hi = leb-true n (longest_frame - more) q in
      sym (both_pass (between shortest_frame longest_frame n) (between shortest_frame longest_frame (n + more)) (between_in shortest_frame longest_frame n lo (omega arith)) (between_in shortest_frame longest_frame (n + more) (omega arith) (omega arith)))
  lengths_cases true false p q =
      let hi = leb-false n (longest_frame - more) q in
      sym (both_right (between shortest_frame longest_frame n) (between shortest_frame longest_frame (n + more)) (between_above shortest_frame longest_frame (n + more) (omega arith)))
  lengths_cases false b p q =
      let lo = leb-false shortest_frame n p in
      sym (both_left (between shortest_frame longest_frame n) (between shortest_frame longest_frame (n + more)) (between_below shortest_frame longest_frame n (omega arith)))

  pub lengths_same : both (leb shortest_frame n) (leb n (longest_frame - more)) ≡ lengths_good n more
  lengths_same = lengths_cases (leb shortest_frame n) (leb n (longest_frame - more)) refl refl

pub lengths_are : (n more : ℕ) → lengths_good n more ≡ true → (shortest_frame ≤ n) × (n + more ≤ longest_frame)
unfolding lengths_good frame_length_good
lengths_are n more h =
    let b = both_true (between shortest_frame longest_frame n) (between shortest_frame longest_frame (n + more)) h in
    ((between_is shortest_frame longest_frame n b.0).0, (between_is shortest_frame longest_frame (n + more) b.1).1)

-- ---- the parts of a Compact frame

module _ (s : Settings) (u : spec.Outer) (f : List ℕ) (g : Bool) (eg : g ≡ outer_good s u) where
  pub bad_outer : g ≡ false → Err SettingsBad ≡ compact_fields s u f
  unfolding compact_fields check
  bad_outer h = rw (← eg, h)

  module _ (ok : g ≡ true) (more : ℕ) (em : more ≡ spec.outer_bytes u) (z : Bool) (ez : z ≡ lengths_good (length f) more) where
    pub bad_lengths : z ≡ false → Err FrameLengthBad ≡ compact_fields s u f
    unfolding compact_fields check
    bad_lengths h = rw (← eg, ok, ← em, ← ez, h)

    module _ (fit : z ≡ true) where
      pub address_there : 6 ≤ length f
      address_there = let a = (lengths_are (length f) more (sym ez ∙ fit)).0 in omega arith

      pub addresses_there : 12 ≤ length f
      addresses_there = let a = (lengths_are (length f) more (sym ez ∙ fit)).0 in omega arith

      pub not_long : length f ≤ longest_frame
      not_long = let a = (lengths_are (length f) more (sym ez ∙ fit)).1 in omega arith

      module _ (a : ℕ) (ea : a ≡ num (take 6 f)) (r : Front) (er : front_as r ≡ front_at s.port a) where
        pub to_port : r ≡ front.Unicast → Err NotCompact ≡ compact_fields s u f
        unfolding compact_fields spec.compact_only check
        to_port p = rw (← eg, ok, ← em, ← ez, fit, ← ea, ← front_at_lem s a, ← er, p)

        pub to_all : r ≡ front.Multicast → Err NotCompact ≡ compact_fields s u f
        unfolding compact_fields spec.compact_only check
        to_all p = rw (← eg, ok, ← em, ← ez, fit, ← ea, ← front_at_lem s a, ← er, p)

        pub not_here : r ≡ front.Refused → Err NotForPort ≡ compact_fields s u f
        unfolding compact_fields spec.compact_only check
        not_here p = rw (← eg, ok, ← em, ← ez, fit, ← ea, ← front_at_lem s a, ← er, p)

        pub compact_front : r ≡ front.Inner → compact f ≡ compact_fields s u f
        unfolding compact_fields spec.compact_only check
        compact_front p = rw (← eg, ok, ← em, ← ez, fit, ← ea, ← front_at_lem s a, ← er, p)

-- ---- the outer destination

module _ (s : Settings) (f : List ℕ) (p : Parts) (w : PartsOf f p) (m : ℕ) (em : m ≡ multicast_of (drop p.header_offset f)) where
  m_in : multicast_of (fields_in f p).header ≡ m
  m_in = rw (← header_word f p w 0 (omega arith)) (sym em)

  pub to_many : m ≡ 1 → all_rbridges ≡ destination_of s (fields_in f p)
  unfolding pick
  to_many h = rw (m_in, eq-eqb m 1 h)

  pub to_one : (m ≡ 1 → ⊥) → s.port ≡ destination_of s (fields_in f p)
  unfolding pick
  to_one h = rw (m_in, ne_eqb m 1 h)

-- ---- the call

check_both : {A : Type 0} (a b : Bool) (n : Refusal) (r : Outcome A) → check (both a b) n r ≡ check a n (check b n r)
unfolding check both
check_both true b n r = refl
check_both false b n r = refl

check-then : {A B : Type 0} (a : Bool) (n : Refusal) (r : Outcome A) (k : A → Outcome B) → and_then (check a n r) k ≡ check a n (and_then r k)
unfolding check and_then
check-then true n r k = refl
check-then false n r k = refl

module _ (s : Settings) (u : spec.Outer) (f : List ℕ) where
  expanding_is : spec.expanding s u f ≡ (and_then (compact_fields s u f) λ p. Ok (spec.general_bytes s u p))
  unfolding spec.expanding compact_fields outer_good lengths_good
  expanding_is = simp (check_both, check-then)

  bytes_are : (p : Fields) → general_to (destination_of s p) u p ≡ spec.general_bytes s u p
  unfolding general_to outer_front spec.general_bytes spec.outer_destination
  bytes_are p = simp append_assoc

  module _ (area : List ℕ) where
    pub call_refused : (n : Refusal) → Reads f (compact_fields s u f) (Err n) → on_area (Err n) area ≡ spec.expanded s u f area
    unfolding spec.expanded settled and_then
    call_refused n r = rw (expanding_is, ← r.fields)

    module _ (p : Parts) (r : Reads f (compact_fields s u f) (Ok p)) where
      fields_got : compact_fields s u f ≡ Ok (fields_in f p)
      fields_got = sym r.fields

      pub call_put : (d : ℕ) → d ≡ destination_of s (fields_in f p) → (a : Outcome ℕ) (o : List ℕ) → on_area a o ≡ put_on (general_to d u (fields_in f p)) area → on_area a o ≡ spec.expanded s u f area
      unfolding spec.expanded settled and_then put_on
      call_put d ed a o q = q ∙ rw (expanding_is, fields_got, ed, bytes_are (fields_in f p))

      -- an accepted frame's result is not too long, and its parts are all of it
      pub result_short : length f + spec.outer_bytes u ≤ longest_frame
      unfolding compact_fields
      result_short = (lengths_are (length f) (spec.outer_bytes u) (check_got _ _ _ _ (check_got _ _ _ _ fields_got).1).0).1

      compact_got : compact f ≡ Ok (fields_in f p)
      unfolding compact_fields
      compact_got = (fronts.compact_front _ f (fields_in f p) (check_got _ _ _ _ (check_got _ _ _ _ fields_got).1).1).1

      pub parts_all : compact_length (length f) p ≡ length f
      unfolding compact_bytes
      parts_all = sym (compact_long f p r.parts) ∙ ap length (sym (compact_is f (fields_in f p) compact_got).whole)
