-- The parts of a frame at their offsets: what is promised of them follows from the fields being accepted; inner addresses and label lie
-- one after the other; the header's fields and the label are read within their parts.
-- Assumes nothing.
use Prim.Native.Nat.{ℕ, ◌+◌, ◌-◌, ◌≤◌}
use mathlib.Core.List.{List, [], ◌++◌}
use mathlib.Core.Path.{◌≡◌, refl, sym, ap, ◌∙◌}
use native.Mathlib.Omega.{arith}
use lib.ListN.{length, take, drop, length-drop, take-append-drop}
use lib.Seq.{take-add, drop-drop, length-take-le}
use Rattle.numbers.specs.Bytes.{num}
use Rattle.numbers.proofs.Lists.{part_prefix}
use Rattle.frame.specs.Front.{Front, inner}
use Rattle.frame.specs.Header.{word_at}
use Rattle.frame.specs.Labels.{tag_bytes, label_length, label_read}
use Rattle.frame.specs.Formats.{longest_frame, general, compact}
use Rattle.frame.proofs.Local.{header_is, LabelIs, vlan, fine, label_is, label_kind, read_front}
use Rattle.frame.proofs.Parts.{Good, general_is, compact_is}
use Rattle.frame_parse.specs.Meaning.{fields_in, PartsOf, parsed_parts, Reads}
use Rattle.frame_parse.specs.declared.Parts.{Parts}
use Rattle.std.specs.Prelude.{Ok}
use Rattle.numbers.specs.Result.{Outcome}

-- ---- the promise

-- what was read has parts
pub parts_of : (f : List ℕ) (x : Outcome Parts) (p : Parts) → parsed_parts f x → x ≡ Ok p → PartsOf f p
parts_of f x p w e = rw e at w

label_least : (l : List ℕ) (n : ℕ) → LabelIs l n → tag_bytes ≤ n
label_least l n (vlan e a b h) = omega arith
label_least l n (fine e a b c h) = omega arith

module _ (f : List ℕ) (p : Parts) where
  module _ (longest : length f ≤ longest_frame) (label-in : p.dst_offset + 12 + p.label_length ≤ length f) (header_in : p.header_offset + p.header_length ≤ length f) where
    good_parts : Good (fields_in f p) → PartsOf f p
    good_parts g =
        let l : List ℕ = drop (p.dst_offset + 12) f in
        let dl : length l ≡ length f - (p.dst_offset + 12) = length-drop (p.dst_offset + 12) f in
        let nl : length (take p.label_length l) ≡ p.label_length = length-take-le p.label_length l (omega arith) in
        let label : label_length l ≡ Ok p.label_length = rw (take-append-drop p.label_length l, nl) at (g.label (drop p.label_length l)) in
        let is = label_is l p.label_length label in
        let h : List ℕ = (fields_in f p).header in
        let dh = length-drop p.header_offset f in
        let nh : length h ≡ p.header_length = length-take-le p.header_length (drop p.header_offset f) (omega arith) in
        let bytes = (header_is inner (h ++ []) (length h) (g.header inner refl [])).bytes in
        let dc = length-drop p.content_offset f in
        let gc = g.content in
        record {
          longest = longest;
          label-in = label-in;
          header_in = header_in;
          content_in = omega arith;
          header = omega arith;
          label = label_least l p.label_length is;
          label_kind = label_kind l p.label_length is;
        }

    pub general_reads : (d : Front) → Ok (fields_in f p) ≡ general d f → Reads f (general d f) (Ok p)
    general_reads d q = record { fields = q; parts = good_parts (general_is d f (fields_in f p) (sym q)).good }

    pub compact_reads : Ok (fields_in f p) ≡ compact f → Reads f (compact f) (Ok p)
    compact_reads q = record { fields = q; parts = good_parts (compact_is f (fields_in f p) (sym q)).good }

  -- ---- one after the other

  -- inner destination, inner source and label are one piece
  pub inner_piece : take (12 + p.label_length) (drop p.dst_offset f) ≡ (fields_in f p).dst ++ ((fields_in f p).src ++ (fields_in f p).label)
  inner_piece =
      let d : ℕ = p.dst_offset in
      let n : ℕ = p.label_length in
      let e : 12 + n ≡ 6 + (6 + n) = omega arith in
      let twelve : d + 6 + 6 ≡ d + 12 = omega arith in
      let b : drop 6 (drop d f) ≡ drop (d + 6) f = drop-drop 6 d f in
      let c : drop 6 (drop (d + 6) f) ≡ drop (d + 12) f = drop-drop 6 (d + 6) f ∙ ap (λ (k : ℕ). drop k f) twelve in
      rw e (take-add 6 (6 + n) (drop d f) ∙ ap (λ (r : List ℕ). take 6 (drop d f) ++ r) (ap (take (6 + n)) b ∙ take-add 6 n (drop (d + 6) f) ∙ ap (λ (r : List ℕ). take 6 (drop (d + 6) f) ++ take n r) c))

  module _ (w : PartsOf f p) where
    pub inner_long : length (take (12 + p.label_length) (drop p.dst_offset f)) ≡ 12 + p.label_length
    inner_long =
        let a = w.label-in in
        let d = length-drop p.dst_offset f in
        length-take-le (12 + p.label_length) (drop p.dst_offset f) (omega arith)

    pub header_long : length (take p.header_length (drop p.header_offset f)) ≡ p.header_length
    header_long =
        let a = w.header_in in
        let d = length-drop p.header_offset f in
        length-take-le p.header_length (drop p.header_offset f) (omega arith)

    -- a word of the header's six bytes is read within the header
    pub header_word : (k : ℕ) → k + 2 ≤ 6 → word_at k (drop p.header_offset f) ≡ word_at k (fields_in f p).header
    header_word k h =
        let a = w.header_in in
        let six = w.header in
        let d = length-drop p.header_offset f in
        ap num (part_prefix (drop p.header_offset f) k 2 p.header_length (omega arith) (omega arith))

    -- so is the label
    pub label_in_frame : label_read (fields_in f p).label ≡ label_read (drop (p.dst_offset + 12) f)
    label_in_frame =
        let a = w.label-in in
        let d = length-drop (p.dst_offset + 12) f in
        read_front (drop (p.dst_offset + 12) f) p.label_length w.label_kind (omega arith)
