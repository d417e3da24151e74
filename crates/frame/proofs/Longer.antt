-- A frame with bytes after it: every part is read where it was, and the content is longer by these bytes. The frame is its parts one after
-- the other, and parts that are put together are read again (Parts).
-- Assumes nothing.
use Prim.Native.Nat.{ℕ, ◌+◌, ◌-◌, ◌≤◌}
use native.Mathlib.Omega.{arith}
use mathlib.Core.Path.{◌≡◌, sym, ap, ◌∙◌}
use mathlib.Core.Bool.{Bool, true}
use mathlib.Core.Logic.{⊎_elim}
use mathlib.Core.List.{List, [], ◌∷◌, ◌++◌, append_assoc}
use lib.ListN.{length, take, drop, get_or, length-append, length-drop, take-append-drop}
use lib.Seq.{length-take-le, take-append-le, drop-cons, drop-drop}
use Rattle.numbers.specs.Bytes.{num}
use Rattle.numbers.proofs.Truth.{pick_true, between_in, between_is}
use Rattle.numbers.proofs.Answers.{refused_got, check_got, check_pass, pick_got}
use Rattle.numbers.proofs.Lists.{starts_is}
use Rattle.frame.specs.Settings.{compact_on}
use Rattle.frame.specs.Front.{address_bytes, address_in, Front, unicast, multicast, refused_front, inner, front_of}
use Rattle.frame.specs.Header.{multicast_of, agrees}
use Rattle.frame.specs.Labels.{trill_type}
use Rattle.frame.specs.Fields.{Fields}
use Rattle.frame.specs.Formats.{general, compact, shortest_frame, longest_frame, frame_length_good, by_front, parsed}
use Rattle.frame.specs.declared.Settings.{Settings}
use Rattle.frame.proofs.Parts.{Good, after_outer, compact_parts, OuterIs, untagged, tagged, general_is, compact_is, compact_reads, general_reads, general_reads_tagged}
use Rattle.std.specs.Prelude.{Ok}

-- the fields with bytes after the content
abbrev pub longer : Fields → List ℕ → Fields
longer p z = record { header = p.header; dst = p.dst; src = p.src; label = p.label; content = p.content ++ z }

module _ (z : List ℕ) where
  longer_good : (p : Fields) → Good p → Good (longer p z)
  longer_good p g = record {
    dst = g.dst;
    src = g.src;
    label = g.label;
    header = g.header;
    content = let c = g.content in let l : length (p.content ++ z) ≡ length p.content + length z = length-append p.content z in omega arith;
  }

  after_outer_longer : (p : Fields) → after_outer p ++ z ≡ after_outer (longer p z)
  after_outer_longer p = simp append_assoc

  compact_longer_parts : (p : Fields) → compact_parts p ++ z ≡ compact_parts (longer p z)
  compact_longer_parts p = simp append_assoc

  -- what comes before the header
  module _ (d : Front) (f : List ℕ) (p : Fields) (o : ℕ) (fits : o ≤ length f) (w : drop o f ≡ after_outer p) where
    front_longer : (m : List ℕ) → drop 12 f ≡ m ++ (trill_type ++ drop o f) → f ++ z ≡ take 12 f ++ (m ++ (trill_type ++ after_outer (longer p z)))
    front_longer m e =
        ap (λ (x : List ℕ). x ++ z) (sym (take-append-drop 12 f) ∙ ap (λ (x : List ℕ). take 12 f ++ x) (e ∙ ap (λ (x : List ℕ). m ++ (trill_type ++ x)) w))
        ∙ append_assoc (take 12 f) (m ++ (trill_type ++ after_outer p)) z
        ∙ ap (λ (x : List ℕ). take 12 f ++ x)
        (append_assoc m (trill_type ++ after_outer p) z ∙ ap (λ (x : List ℕ). m ++ (trill_type ++ x)) (after_outer_longer p))

  module _ (d : Front) (f : List ℕ) (p : Fields) where
    general_longer : general d f ≡ Ok p → general d (f ++ z) ≡ Ok (longer p z)
    general_longer q = let i = general_is d f p q in go i.outer i.fits i.whole i.outer_is (longer_good p i.good) i.agreed
      where
        go : (o : ℕ) → o ≤ length f → drop o f ≡ after_outer p → OuterIs f o → Good (longer p z) → agrees d (multicast_of p.header) ≡ true → general d (f ++ z) ≡ Ok (longer p z)
        go o fits w (untagged e t k) g m =
            ap (general d) (front_longer d f p o fits w [] t)
            ∙ general_reads d (longer p z) g m (take 12 f) (length-take-le 12 f (omega arith))
        go o fits w (tagged e t k) g m =
            let r : length (drop 12 f) ≡ length f - 12 = length-drop 12 f in
            let tag : drop 12 f ≡ 0x81 ∷ (0x00 ∷ drop 14 f) = starts_is 0x81 0x00 (drop 12 f) (omega arith) k ∙ ap (λ (x : List ℕ). 0x81 ∷ (0x00 ∷ x)) (drop-drop 2 12 f) in
            let two : drop 14 f ≡ get_or f 14 0 ∷ (get_or f 15 0 ∷ drop 16 f) = drop-cons f 14 0 (omega arith) ∙ ap (λ (x : List ℕ). get_or f 14 0 ∷ x) (drop-cons f 15 0 (omega arith)) in
            let whole : drop 12 f ≡ 0x81 ∷ (0x00 ∷ (get_or f 14 0 ∷ (get_or f 15 0 ∷ (trill_type ++ drop o f)))) = tag ∙ ap (λ (x : List ℕ). 0x81 ∷ (0x00 ∷ x)) (two ∙ ap (λ (x : List ℕ). get_or f 14 0 ∷ (get_or f 15 0 ∷ x)) t) in
            ap (general d) (front_longer d f p o fits w (0x81 ∷ (0x00 ∷ (get_or f 14 0 ∷ (get_or f 15 0 ∷ [])))) whole)
            ∙ general_reads_tagged d (longer p z) g m (take 12 f) (length-take-le 12 f (omega arith)) (get_or f 14 0) (get_or f 15 0)

  compact_longer : (f : List ℕ) (p : Fields) → compact f ≡ Ok p → compact (f ++ z) ≡ Ok (longer p z)
  compact_longer f p q =
      let i = compact_is f p q in
      ap compact (ap (λ (x : List ℕ). x ++ z) i.whole ∙ compact_longer_parts p) ∙ compact_reads (longer p z) (longer_good p i.good)

  front_reads : (on : Bool) (d : Front) (f : List ℕ) (p : Fields) → by_front on d f ≡ Ok p → by_front on d (f ++ z) ≡ Ok (longer p z)
  unfolding by_front
  front_reads on unicast f p q = general_longer unicast f p q
  front_reads on multicast f p q = general_longer multicast f p q
  front_reads on refused_front f p q = refused_got _ p q
  front_reads on inner f p q =
      ⊎_elim
      (λ v. pick_true _ _ _ v.0 ∙ compact_longer f p v.1)
      (λ v. refused_got _ p v.1)
      (pick_got _ _ _ _ q)

  -- the frame with bytes after it, as long as a frame may be
  pub parsed_longer : (s : Settings) (f : List ℕ) (p : Fields) → length f + length z ≤ longest_frame → parsed s f ≡ Ok p → parsed s (f ++ z) ≡ Ok (longer p z)
  unfolding parsed frame_length_good
  parsed_longer s f p room q =
      let c = check_got _ _ _ _ q in
      let k = between_is shortest_frame longest_frame (length f) c.0 in
      let l : length (f ++ z) ≡ length f + length z = length-append f z in
      check_pass _ _ _ (between_in shortest_frame longest_frame (length (f ++ z)) (omega arith) (omega arith))
      ∙ ap (λ (a : List ℕ). by_front (compact_on s) (front_of s (num a)) (f ++ z)) (take-append-le address_bytes f z (omega arith))
      ∙ front_reads (compact_on s) (front_of s (address_in f)) f p c.1
