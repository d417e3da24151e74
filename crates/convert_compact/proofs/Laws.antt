-- Each outcome of compaction, from facts as the code finds them; the pieces that it writes are the Compact frame.
-- Assumes nothing.
use Prim.Native.Nat.{ℕ, ◌+◌, ◌≤◌, ◌<◌}
use mathlib.Core.Bool.{Bool, true, false}
use mathlib.Core.List.{List, ◌++◌, append_assoc}
use mathlib.Core.Logic.{◌⊎◌, inl, inr}
use mathlib.Core.Path.{◌≡◌, refl, sym, ap, ◌∙◌}
use native.Mathlib.Omega.{arith}
use lib.ListN.{length, take, drop, length-append, length-drop}
use Rattle.numbers.specs.Result.{check, and_then, settled, Outcome}
use Rattle.numbers.specs.After.{on_area}
use Rattle.numbers.specs.Bytes.{num, bytes_of, laid}
use Rattle.numbers.proofs.Truth.{between_below, between_above}
use Rattle.frame.specs.Settings.{settings_good}
use Rattle.frame.specs.Front as spec
use Rattle.frame.specs.Labels.{trill_type}
use Rattle.frame.specs.Formats.{shortest_frame, longest_frame, frame_length_good, general}
use Rattle.frame.specs.declared.Settings.{Settings}
use Rattle.frame_fields.specs.Meaning.{front_as, front_at}
use Rattle.frame_fields.specs.declared.Front.{Front}
use Rattle.frame_fields.specs.declared.Front.TheVariants as front
use Rattle.frame_parse.specs.Meaning.{fields_in, PartsOf, Reads}
use Rattle.frame_parse.specs.declared.Parts.{Parts}
use Rattle.frame_parse.proofs.Outcomes.{frame_length_in}
use Rattle.frame_parse.proofs.Located.{inner_piece, inner_long, header_long}
use Rattle.frame_copy.specs.Areas.{pasted}
use Rattle.frame_copy.proofs.Copying.{paste_after, paste_laid}
use Rattle.convert.specs.Compaction.{compact_bytes, stays_general, general_only, general_fields, compacting, compacted}
use Rattle.convert_compact.specs.Meaning.{fields_at, compact_length, put_on}
use Rattle.std.specs.Prelude.{Ok, Err}
use Rattle.numbers.specs.declared.refusals.Refusal.TheVariants.{SettingsBad, FrameLengthBad, NotForPort, NotCompactable}
use Rattle.numbers.specs.declared.refusals.Refusal.{Refusal}

-- ---- the parts of a General frame

module _ (port : ℕ) (f : List ℕ) where
  pub too_short : length f < shortest_frame → Err FrameLengthBad ≡ fields_at port f
  unfolding fields_at frame_length_good check
  too_short p = rw (between_below shortest_frame longest_frame (length f) p)

  module _ (lo : shortest_frame ≤ length f) where
    pub too_long : longest_frame < length f → Err FrameLengthBad ≡ fields_at port f
    unfolding fields_at frame_length_good check
    too_long p = rw (between_above shortest_frame longest_frame (length f) p)

    module _ (hi : length f ≤ longest_frame) (a : ℕ) (ea : a ≡ num (take 6 f)) (r : Front) (er : front_as r ≡ front_at port a) where
      by_front_lem : (d : Front) → r ≡ d → general_only (front_as d) f ≡ fields_at port f
      unfolding fields_at check
      by_front_lem d p = rw (frame_length_in (length f) lo hi, ← ea, ← er, p)

      pub to_us : (r ≡ front.Unicast) ⊎ (r ≡ front.Multicast) → general (front_as r) f ≡ fields_at port f
      unfolding general_only
      to_us (inl p) = rw p (by_front_lem front.Unicast p)
      to_us (inr p) = rw p (by_front_lem front.Multicast p)

      pub not_here : r ≡ front.Refused → Err NotForPort ≡ fields_at port f
      unfolding general_only
      not_here p = by_front_lem front.Refused p

      pub compact_front : r ≡ front.Inner → Err NotCompactable ≡ fields_at port f
      unfolding general_only
      compact_front p = by_front_lem front.Inner p

-- with the settings' test in front
module _ (s : Settings) (f : List ℕ) (g : Bool) (eg : g ≡ settings_good s) where
  pub bad_settings : g ≡ false → general_fields s f ≡ Err SettingsBad
  unfolding general_fields check
  bad_settings h = rw (← eg, h)

  pub good_settings : g ≡ true → fields_at s.port f ≡ general_fields s f
  unfolding general_fields fields_at front_at spec.front_of check
  good_settings h = rw (← eg, h)

-- ---- what is written

pub trill_bytes : bytes_of 2 0x22F3 ≡ trill_type
unfolding bytes_of
trill_bytes = refl

module _ (f : List ℕ) (p : Parts) where
  -- the frame as it is written, piece by piece
  pieces : List ℕ
  pieces = ((take (12 + p.label_length) (drop p.dst_offset f) ++ trill_type) ++ take p.header_length (drop p.header_offset f)) ++ drop p.content_offset f

  pieces_are : pieces ≡ compact_bytes (fields_in f p)
  unfolding pieces compact_bytes
  pieces_are = rw (inner_piece f p) (simp append_assoc)

  module _ (w : PartsOf f p) where
    pub compact_long : length (compact_bytes (fields_in f p)) ≡ compact_length (length f) p
    unfolding pieces
    compact_long =
        rw (← pieces_are)
        (simp (length-append, inner_long f p w, header_long f p w, length-drop p.content_offset f) (omega arith))

    pub wrote_compact : (out c o₁ o₂ o₃ o₄ : List ℕ)
        → o₁ ≡ pasted out 0 (take (12 + p.label_length) (drop p.dst_offset f))
        → o₂ ≡ pasted o₁ (12 + p.label_length) (bytes_of 2 0x22F3)
        → o₃ ≡ pasted o₂ (12 + p.label_length + 2) (take p.header_length (drop p.header_offset f))
        → c ≡ drop p.content_offset f
        → o₄ ≡ pasted o₃ (12 + p.label_length + 2 + p.header_length) c
        → o₄ ≡ laid (compact_bytes (fields_in f p)) out
    unfolding pieces
    wrote_compact out c o₁ o₂ o₃ o₄ w₁ w₂ w₃ e w₄ =
        let n : ℕ = 12 + p.label_length in
        let x₁ : List ℕ = take n (drop p.dst_offset f) in
        let x₂ : List ℕ = x₁ ++ trill_type in
        let h : List ℕ = take p.header_length (drop p.header_offset f) in
        let x₃ : List ℕ = x₂ ++ h in
        let l₁ : length x₁ ≡ n = inner_long f p w in
        let l₂ : length x₂ ≡ n + 2 = rw (length-append, l₁) (omega arith) in
        let l₃ : length x₃ ≡ n + 2 + p.header_length = rw (length-append, l₂, header_long f p w) (omega arith) in
        simp (w₄, w₃, w₂, w₁, e, trill_bytes, paste_after out x₁ trill_type n l₁, paste_after out x₂ h (n + 2) l₂, paste_after out x₃ (drop p.content_offset f) (n + 2 + p.header_length) l₃)
        (paste_laid out pieces ∙ ap (λ (b : List ℕ). laid b out) pieces_are)

-- ---- the call

module _ (s : Settings) (f area : List ℕ) (g : Bool) (eg : g ≡ settings_good s) where
  pub call_settings : g ≡ false → on_area (Err SettingsBad) area ≡ compacted s f area
  unfolding compacted compacting settled and_then
  call_settings h = rw (bad_settings s f g eg h)

module _ (s : Settings) (f area : List ℕ) (g : Bool) (eg : g ≡ settings_good s) (ok : g ≡ true) where
  pub call_refused : (n : Refusal) → Reads f (fields_at s.port f) (Err n) → on_area (Err n) area ≡ compacted s f area
  unfolding compacted compacting settled and_then
  call_refused n r = rw (← good_settings s f g eg ok, ← r.fields)

  module _ (p : Parts) (r : Reads f (fields_at s.port f) (Ok p)) where
    fields_got : general_fields s f ≡ Ok (fields_in f p)
    fields_got = sym (r.fields ∙ good_settings s f g eg ok)

    module _ (a : ℕ) (ea : a ≡ num (take 6 (drop p.dst_offset f))) (b : Bool) (eb : b ≡ stays_general s a) where
      pub call_stays : b ≡ true → on_area (Err NotCompactable) area ≡ compacted s f area
      unfolding compacted compacting settled and_then check
      call_stays h = rw (fields_got, ← ea, ← eb, h)

      pub call_put : b ≡ false → (r : Outcome ℕ) (o : List ℕ) → on_area r o ≡ put_on (compact_bytes (fields_in f p)) area → on_area r o ≡ compacted s f area
      unfolding compacted compacting settled and_then check put_on
      call_put h r o q = q ∙ rw (fields_got, ← ea, ← eb, h)
