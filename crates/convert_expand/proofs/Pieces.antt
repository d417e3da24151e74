-- The pieces that expansion writes, one after the other, are the General frame.
-- Assumes nothing.
use Prim.Native.Nat.{ℕ, ◌+◌, ◌≤◌}
use mathlib.Core.Bool.{Bool, true, false}
use mathlib.Core.List.{List, [], ◌++◌, append_assoc, append-nil}
use mathlib.Core.Path.{◌≡◌, refl, sym, ap}
use native.Mathlib.Omega.{arith}
use lib.Dec.{eqb}
use lib.ListN.{length, take, drop, length-append, length-drop, take-append-drop}
use borrow.Author.Tests.{eq-eqb, ne_eqb}
use Rattle.numbers.specs.Tests.{pick}
use Rattle.numbers.specs.Bytes.{bytes_of, laid}
use Rattle.numbers.proofs.Bytes.{length-bytes_of}
use Rattle.frame.specs.Labels.{trill_type, tag_type}
use Rattle.frame.specs.Fields.{Fields}
use Rattle.frame_parse.specs.Meaning.{fields_in, PartsOf}
use Rattle.frame_parse.specs.declared.Parts.{Parts}
use Rattle.frame_parse.proofs.Located.{inner_piece, inner_long, header_long}
use Rattle.frame_copy.specs.Areas.{pasted}
use Rattle.frame_copy.proofs.Copying.{paste_next, paste_after, paste_laid}
use Rattle.convert.specs.Expansion as spec
use Rattle.convert_compact.specs.Meaning.{compact_length}
use Rattle.convert_compact.proofs.Laws.{trill_bytes}
use Rattle.convert_expand.specs.Meaning.{outer_front, general_to}

-- ---- outer addresses and tag

tag_type_lem : bytes_of 2 0x8100 ≡ tag_type
unfolding bytes_of
tag_type_lem = refl

module _ (u : spec.Outer) where
  pub none_bytes : u.tagged ≡ 0 → 12 ≡ spec.outer_bytes u
  unfolding pick
  none_bytes h = rw (eq-eqb u.tagged 0 h)

  pub tag_bytes_lem : (u.tagged ≡ 0 → ⊥) → 16 ≡ spec.outer_bytes u
  unfolding pick
  tag_bytes_lem h = rw (ne_eqb u.tagged 0 h)

  front_cases : (b : Bool) → 12 + length (pick b [] (tag_type ++ bytes_of 2 u.tag)) ≡ pick b 12 16
  unfolding pick
  front_cases true = refl
  front_cases false = let l = length-bytes_of 2 u.tag in omega arith

  -- the tag is what the outer part has beside the addresses
  tag_long : 12 + length (spec.outer_tag u) ≡ spec.outer_bytes u
  unfolding spec.outer_tag
  tag_long = front_cases (eqb u.tagged 0)

  pub outer_room : (n : ℕ) → spec.outer_bytes u ≤ n → 12 ≤ n
  outer_room n h = let l = tag_long in omega arith

  module _ (o : List ℕ) where
    pub tag_none : u.tagged ≡ 0 → o ≡ pasted o 12 (spec.outer_tag u)
    unfolding spec.outer_tag pick pasted
    tag_none h = rw (eq-eqb u.tagged 0 h) (sym (simp append-nil (take-append-drop 12 o)))

    module _ (some : u.tagged ≡ 0 → ⊥) (room : spec.outer_bytes u ≤ length o) where
      pub tag_room : 16 ≤ length o
      tag_room = let b = tag_bytes_lem some in omega arith

      pub tag_written : (o₁ o₂ : List ℕ) → o₁ ≡ pasted o 12 (bytes_of 2 0x8100) → o₂ ≡ pasted o₁ 14 (bytes_of 2 u.tag) → o₂ ≡ pasted o 12 (spec.outer_tag u)
      unfolding spec.outer_tag pick
      tag_written o₁ o₂ w₁ w₂ =
          let r = tag_room in
          rw (ne_eqb u.tagged 0 some, w₂, w₁, tag_type_lem) (paste_next o tag_type (bytes_of 2 u.tag) 12 14 (omega arith) refl)

  module _ (dst : ℕ) where
    pub outer_written : (o o₁ o₂ o₃ : List ℕ) → o₁ ≡ pasted o 0 (bytes_of 6 dst) → o₂ ≡ pasted o₁ 6 (bytes_of 6 u.source) → o₃ ≡ pasted o₂ 12 (spec.outer_tag u) → o₃ ≡ pasted o 0 (outer_front dst u)
    unfolding outer_front
    outer_written o o₁ o₂ o₃ w₁ w₂ w₃ =
        let a : List ℕ = bytes_of 6 dst in
        let b : List ℕ = bytes_of 6 u.source in
        let la : length a ≡ 6 = length-bytes_of 6 dst in
        let lb : length b ≡ 6 = length-bytes_of 6 u.source in
        let lab : length (a ++ b) ≡ 12 = rw (length-append, la, lb) (omega arith) in
        rw (w₃, w₂, w₁, paste_after o a b 6 la, paste_after o (a ++ b) (spec.outer_tag u) 12 lab) (ap (pasted o 0) (append_assoc a b (spec.outer_tag u)))

    outer_long : length (outer_front dst u) ≡ spec.outer_bytes u
    unfolding outer_front
    outer_long =
        let la : length (bytes_of 6 dst) ≡ 6 = length-bytes_of 6 dst in
        let lb : length (bytes_of 6 u.source) ≡ 6 = length-bytes_of 6 u.source in
        let l = tag_long in
        rw (length-append, length-append, la, lb) (omega arith)

-- ---- what is after them

joined : (t h a b c d : List ℕ) → ((t ++ h) ++ (a ++ (b ++ c))) ++ d ≡ t ++ (h ++ (a ++ (b ++ (c ++ d))))
joined t h a b c d = simp append_assoc

module _ (f : List ℕ) (p : Parts) (w : PartsOf f p) where
  tail-pieces : List ℕ
  tail-pieces = ((trill_type ++ take p.header_length (drop p.header_offset f)) ++ take (12 + p.label_length) (drop p.dst_offset f)) ++ drop p.content_offset f

  tail_is : tail-pieces ≡ spec.general_tail (fields_in f p)
  unfolding tail-pieces spec.general_tail
  tail_is =
      let q : Fields = fields_in f p in
      rw (inner_piece f p) (joined trill_type q.header q.dst q.src q.label q.content)

  tail_long : length (spec.general_tail (fields_in f p)) ≡ compact_length (length f) p
  unfolding tail-pieces
  tail_long =
      rw (← tail_is)
      (simp (length-append, inner_long f p w, header_long f p w, length-drop p.content_offset f) (omega arith))

  pub tail_written : (out c o₁ o₂ o₃ o₄ : List ℕ) (at : ℕ)
      → at + compact_length (length f) p ≤ length out
      → o₁ ≡ pasted out at (bytes_of 2 0x22F3)
      → o₂ ≡ pasted o₁ (at + 2) (take p.header_length (drop p.header_offset f))
      → o₃ ≡ pasted o₂ (at + 2 + p.header_length) (take (12 + p.label_length) (drop p.dst_offset f))
      → c ≡ drop p.content_offset f
      → o₄ ≡ pasted o₃ (at + 2 + p.header_length + (12 + p.label_length)) c
      → o₄ ≡ pasted out at (spec.general_tail (fields_in f p))
  unfolding tail-pieces
  tail_written out c o₁ o₂ o₃ o₄ at room w₁ w₂ w₃ e w₄ =
      let n : ℕ = 12 + p.label_length in
      let h : List ℕ = take p.header_length (drop p.header_offset f) in
      let i : List ℕ = take n (drop p.dst_offset f) in
      let x₂ : List ℕ = trill_type ++ h in
      let x₃ : List ℕ = x₂ ++ i in
      let start : at ≤ length out = omega arith in
      let lh : length h ≡ p.header_length = header_long f p w in
      let li : length i ≡ n = inner_long f p w in
      let l₁ : at + length trill_type ≡ at + 2 = refl in
      let l₂ : at + length x₂ ≡ at + 2 + p.header_length = rw (length-append, lh) (omega arith) in
      let l₃ : at + length x₃ ≡ at + 2 + p.header_length + n = rw (length-append, length-append, lh, li) (omega arith) in
      simp (w₄, w₃, w₂, w₁, e, trill_bytes, paste_next out trill_type h at (at + 2) start l₁, paste_next out x₂ i at (at + 2 + p.header_length) start l₂, paste_next out x₃ (drop p.content_offset f) at (at + 2 + p.header_length + n) start l₃)
      (ap (pasted out at) tail_is)

  module _ (dst : ℕ) (u : spec.Outer) (k : ℕ) (ek : k ≡ spec.outer_bytes u) where
    pub general_long : compact_length (length f) p ≡ length f → length (general_to dst u (fields_in f p)) ≡ length f + k
    unfolding general_to
    general_long e =
        let a = outer_long u dst in
        let b = tail_long in
        rw length-append (omega arith)

    pub general-written : (o o₁ o₂ : List ℕ) → o₁ ≡ pasted o 0 (outer_front dst u) → o₂ ≡ pasted o₁ k (spec.general_tail (fields_in f p)) → o₂ ≡ laid (general_to dst u (fields_in f p)) o
    unfolding general_to
    general-written o o₁ o₂ w₁ w₂ =
        let l = outer_long u dst in
        rw (w₂, w₁, paste_after o (outer_front dst u) (spec.general_tail (fields_in f p)) k (omega arith)) (paste_laid o (outer_front dst u ++ spec.general_tail (fields_in f p)))
