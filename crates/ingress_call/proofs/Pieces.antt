-- The pieces that ingress writes, one after the other, are the General frame.
-- Assumes nothing.
use Prim.Native.Nat.{ℕ, ◌+◌, ◌*◌, ◌/◌, ◌%◌, ◌≤◌}
use native.Mathlib.Omega.{arith}
use mathlib.Core.List.{List, ◌++◌, append_assoc}
use mathlib.Core.Path.{◌≡◌, refl, ap, ◌∙◌}
use lib.ListN.{length, take, drop, length-append, length-drop}
use lib.Seq.{take-add, length-take-le}
use Rattle.numbers.specs.Bytes.{bytes_of}
use Rattle.convert.specs.Expansion.{general_tail}
use Rattle.frame_copy.specs.Areas.{pasted}
use Rattle.frame_copy.proofs.Copying.{paste_next, paste_after}
use Rattle.port_map.specs.declared.PortVlan.{PortVlan}
use Rattle.port_map.specs.declared.CampusLabel.{CampusLabel}
use Rattle.ingress.specs.Ingress.{header_of, fine_label, fields_for, general_for}
use Rattle.ingress.specs.declared.Given.{Given}
use Rattle.ingress_call.specs.Meaning.{native_with, outer_of}

module _ (u : Given) (o : List ℕ) where
  pub outer_written : (a b e : List ℕ) → a ≡ pasted o 0 (bytes_of 6 u.destination) → b ≡ pasted a 6 (bytes_of 6 u.source) → e ≡ pasted b 12 (bytes_of 2 0x22F3) → e ≡ pasted o 0 (outer_of u)
  unfolding outer_of bytes_of
  outer_written a b e first second third =
      let x : List ℕ = bytes_of 6 u.destination in
      let y : List ℕ = bytes_of 6 u.source in
      third ∙ rw (second, first, paste_after o x y 6 refl, paste_after o (x ++ y) (bytes_of 2 0x22F3) 12 refl)

  pub header_written : 20 ≤ length o → (a b e : List ℕ) → a ≡ pasted o 14 (bytes_of 2 (u.multicast * 0x800 + u.hops)) → b ≡ pasted a 16 (bytes_of 2 u.egress) → e ≡ pasted b 18 (bytes_of 2 u.ingress) → e ≡ pasted o 14 (header_of u)
  unfolding header_of bytes_of
  header_written room a b e first second third =
      let x : List ℕ = bytes_of 2 (u.multicast * 0x800 + u.hops) in
      let y : List ℕ = bytes_of 2 u.egress in
      third ∙ rw (second, first, paste_next o x y 14 16 (omega arith) refl, paste_next o (x ++ y) (bytes_of 2 u.ingress) 14 18 (omega arith) refl)

module _ (q : ℕ) (l : CampusLabel) (o : List ℕ) where
  pub label_written : 40 ≤ length o → (a b d e : List ℕ) → a ≡ pasted o 32 (bytes_of 2 0x893B) → b ≡ pasted a 34 (bytes_of 2 (q * 0x2000 + l.0 / 0x1000))
      → d ≡ pasted b 36 (bytes_of 2 0x893B) → e ≡ pasted d 38 (bytes_of 2 (q * 0x2000 + l.0 % 0x1000)) → e ≡ pasted o 32 (fine_label q l)
  unfolding fine_label bytes_of
  label_written room a b d e first second third fourth =
      let x : List ℕ = bytes_of 2 0x893B in
      let y : List ℕ = bytes_of 2 (q * 0x2000 + l.0 / 0x1000) in
      let z : List ℕ = bytes_of 2 (q * 0x2000 + l.0 % 0x1000) in
      fourth ∙ rw (third, second, first, paste_next o x y 32 34 (omega arith) refl, paste_next o (x ++ y) x 32 36 (omega arith) refl, paste_next o ((x ++ y) ++ x) z 32 38 (omega arith) refl)

module _ (u : Given) (q : ℕ) (l : CampusLabel) (f o : List ℕ) where
  outer_long : length (outer_of u) ≡ 14
  unfolding outer_of bytes_of
  outer_long = refl

  header_long : length (header_of u) ≡ 6
  unfolding header_of bytes_of
  header_long = refl

  label_long : length (fine_label q l) ≡ 8
  unfolding fine_label bytes_of
  label_long = refl

  both : take 12 f ≡ take 6 f ++ take 6 (drop 6 f)
  both = take-add 6 6 f

  -- the frame, piece by piece
  whole : (v : PortVlan) → general_for u (native_with f v q) l ≡ (((outer_of u ++ header_of u) ++ take 12 f) ++ fine_label q l) ++ drop 16 f
  unfolding general_for general_tail fields_for outer_of
  whole v =
      let d : List ℕ = bytes_of 6 u.destination in
      let s : List ℕ = bytes_of 6 u.source in
      let h : List ℕ = header_of u in
      let p : List ℕ = fine_label q l in
      let c : List ℕ = drop 16 f in
      rw (both) (simp append_assoc)

  pub general-written : 16 ≤ length f → (a b x g w y e : List ℕ) → a ≡ pasted o 0 (outer_of u) → b ≡ pasted a 14 (header_of u)
      → x ≡ take 12 (drop 0 f) → g ≡ pasted b 20 x → w ≡ pasted g 32 (fine_label q l) → y ≡ drop 16 f → e ≡ pasted w 40 y
      → (v : PortVlan) → e ≡ pasted o 0 (general_for u (native_with f v q) l)
  general-written long a b x g w y e first second addresses third fourth content fifth v =
      let t : length (take 12 f) ≡ 12 = length-take-le 12 f (omega arith) in
      let n1 : length (outer_of u ++ header_of u) ≡ 20 = simp (length-append, outer_long, header_long) in
      let n2 : length ((outer_of u ++ header_of u) ++ take 12 f) ≡ 32 = simp (length-append, outer_long, header_long, t) in
      let n3 : length (((outer_of u ++ header_of u) ++ take 12 f) ++ fine_label q l) ≡ 40 = simp (length-append, outer_long, header_long, t, label_long) in
      fifth
      ∙ rw (
        content,
        fourth,
        third,
        addresses,
        second,
        first,
        paste_after o (outer_of u) (header_of u) 14 outer_long,
        paste_after o (outer_of u ++ header_of u) (take 12 f) 20 n1,
        paste_after o ((outer_of u ++ header_of u) ++ take 12 f) (fine_label q l) 32 n2,
        paste_after o (((outer_of u ++ header_of u) ++ take 12 f) ++ fine_label q l) (drop 16 f) 40 n3,
        whole v,
      )

  pub general-length : 16 ≤ length f → (v : PortVlan) → length (general_for u (native_with f v q) l) ≡ length f + 24
  general-length long v =
      let t : length (take 12 f) ≡ 12 = length-take-le 12 f (omega arith) in
      let d = length-drop 16 f in
      ap length (whole v) ∙ simp (length-append, outer_long, header_long, t, label_long) (omega arith)
