-- Each outcome of `parsed`, from facts as the code finds them.
-- Assumes nothing.
use Prim.Native.Nat.{ℕ, ◌≤◌, ◌<◌}
use mathlib.Core.Bool.{true}
use mathlib.Core.Path.{◌≡◌, refl, ◌∙◌}
use mathlib.Core.List.{List}
use lib.ListN.{length, take}
use borrow.Author.Tests.{eq-eqb, ne_eqb}
use Rattle.numbers.specs.Tests.{pick}
use Rattle.numbers.specs.Result.{Outcome, check}
use Rattle.numbers.specs.Bytes.{num}
use Rattle.numbers.proofs.Truth.{between_in, between_below, between_above}
use Rattle.frame.specs.Fields.{Fields}
use Rattle.frame.specs.Front.{front_of}
use Rattle.frame.specs.Formats.{shortest_frame, longest_frame, frame_length_good, general, compact, by_front, parsed}
use Rattle.frame.specs.declared.Settings.{Settings}
use Rattle.frame_fields.specs.Meaning.{front_as, front_at}
use Rattle.frame_fields.specs.declared.Front.{Front}
use Rattle.frame_fields.specs.declared.Front.TheVariants as front
use Rattle.frame_parse.specs.Meaning.{Reads}
use Rattle.std.specs.Prelude.{Err}
use Rattle.numbers.specs.declared.refusals.Refusal.TheVariants.{FrameLengthBad, NotForPort}
use Rattle.numbers.specs.declared.refusals.Refusal.{Refusal}
use Rattle.frame_parse.specs.declared.Parts.{Parts}

-- a refusal has no parts
pub reads_refused : (f : List ℕ) (x : Outcome Fields) (n : Refusal) → Err n ≡ x → Reads f x (Err n)
reads_refused f x n e = record { fields = e; parts = tt }

-- what is read is read under each name of it
pub reads_as : (f : List ℕ) (x y : Outcome Fields) (r : Outcome Parts) → x ≡ y → Reads f x r → Reads f y r
reads_as f x y r e w = record { fields = w.fields ∙ e; parts = w.parts }

pub front_at_lem : (s : Settings) (a : ℕ) → front_at s.port a ≡ front_of s a
unfolding front_at front_of
front_at_lem s a = refl

pub frame_length_in : (n : ℕ) → shortest_frame ≤ n → n ≤ longest_frame → frame_length_good n ≡ true
unfolding frame_length_good
frame_length_in n lo hi = between_in shortest_frame longest_frame n lo hi

module _ (s : Settings) (f : List ℕ) where
  pub too_short : length f < shortest_frame → Err FrameLengthBad ≡ parsed s f
  unfolding parsed frame_length_good check
  too_short p = rw (between_below shortest_frame longest_frame (length f) p)

  module _ (lo : shortest_frame ≤ length f) where
    pub too_long : longest_frame < length f → Err FrameLengthBad ≡ parsed s f
    unfolding parsed frame_length_good check
    too_long p = rw (between_above shortest_frame longest_frame (length f) p)

    module _ (hi : length f ≤ longest_frame) (a : ℕ) (ea : a ≡ num (take 6 f)) (r : Front) (er : front_as r ≡ front_at s.port a) where
      pub not_here : r ≡ front.Refused → Err NotForPort ≡ parsed s f
      unfolding parsed check by_front
      not_here p = rw (frame_length_in (length f) lo hi, ← ea, ← front_at_lem s a, ← er, p)

      pub compact_off : r ≡ front.Inner → (s.compact ≡ 1 → ⊥) → Err NotForPort ≡ parsed s f
      unfolding parsed check by_front pick
      compact_off p q = rw (frame_length_in (length f) lo hi, ← ea, ← front_at_lem s a, ← er, p, ne_eqb s.compact 1 q)

      pub compact_on_lem : r ≡ front.Inner → s.compact ≡ 1 → compact f ≡ parsed s f
      unfolding parsed check by_front pick
      compact_on_lem p q = rw (frame_length_in (length f) lo hi, ← ea, ← front_at_lem s a, ← er, p, eq-eqb s.compact 1 q)

      pub to_port : r ≡ front.Unicast → general (front_as r) f ≡ parsed s f
      unfolding parsed check by_front
      to_port p = rw (frame_length_in (length f) lo hi, ← ea, ← front_at_lem s a, ← er, p)

      pub to_all : r ≡ front.Multicast → general (front_as r) f ≡ parsed s f
      unfolding parsed check by_front
      to_all p = rw (frame_length_in (length f) lo hi, ← ea, ← front_at_lem s a, ← er, p)
