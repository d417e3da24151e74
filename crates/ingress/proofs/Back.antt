-- Towards MapRoundTrip: what ingress writes is read as the fields it was made of, and label and priority come back.
-- Assumes nothing.
use Prim.Native.Nat.{ℕ, ◌+◌, ◌*◌, ◌/◌, ◌%◌, ◌^◌, ◌<◌, ◌≤◌}
use mathlib.Core.Bool.{true, false}
use mathlib.Core.List.{List, ◌++◌, append_assoc}
use mathlib.Core.Path.{◌≡◌, refl, sym, ap, ◌∙◌}
use native.Mathlib.Omega.{arith}
use lib.ListN.{length, take, drop, length-append, length-drop}
use lib.Seq.{drop-drop, take-add, length-take-le}
use borrow.Author.Tests.{le-leb, eq-eqb}
use Rattle.numbers.specs.Tests.{both}
use Rattle.numbers.specs.Bytes.{AreBytes, num, bytes_of, starts_with}
use Rattle.numbers.proofs.Truth.{pick_false}
use Rattle.numbers.proofs.Answers.{check_pass}
use Rattle.numbers.proofs.Bytes.{length-bytes_of, num_same, num_part_lt}
use Rattle.numbers.proofs.Lists.{starts_is}
use Rattle.frame.specs.Front.{Front, address_bytes}
use Rattle.frame.specs.Header.{word_at, version_of, multicast_of, option_length, header_bytes, agrees, header_length}
use Rattle.frame.specs.Labels.{tag_type, is_tag, is_fine, low12, label_length}
use Rattle.frame.specs.Formats.{general}
use Rattle.frame.proofs.Parts.{Good, general_reads}
use Rattle.convert.specs.Expansion.{general_tail}
use Rattle.ingress.specs.Ingress.{Native, native_of, header_of, fine_label, fields_for, general_for}
use Rattle.ingress.specs.declared.Given.{Given}
use Rattle.port_map.specs.Maps.{campus_label, port_vlan}
use Rattle.port_map.specs.declared.CampusLabel.{CampusLabel}
use Rattle.receive.specs.Delivering.{fine_in, priority_at, tag_word, tagged_bytes}
use Rattle.ingress.specs.Claims.{without_dei}
use Rattle.std.specs.Prelude.{Ok}

-- ---- the label

module _ (q : ℕ) (l : CampusLabel) where
  word_2 : word_at 2 (fine_label q l) ≡ num (bytes_of 2 (q * 2 ^ 13 + l.0 / 2 ^ 12))
  unfolding fine_label bytes_of
  word_2 = refl

  word_6 : word_at 6 (fine_label q l) ≡ num (bytes_of 2 (q * 2 ^ 13 + l.0 % 2 ^ 12))
  unfolding fine_label bytes_of
  word_6 = refl

  module _ (three : q < 8) (small : l.0 ≤ 0xFF_FFFF) where
    number_back : low12 2 (fine_label q l) * 2 ^ 12 + low12 6 (fine_label q l) ≡ l.0
    number_back =
        let x : word_at 2 (fine_label q l) ≡ q * 2 ^ 13 + l.0 / 2 ^ 12 = word_2 ∙ num_same 2 _ (omega arith) in
        let y : word_at 6 (fine_label q l) ≡ q * 2 ^ 13 + l.0 % 2 ^ 12 = word_6 ∙ num_same 2 _ (omega arith) in
        omega arith

    pub fine_back : fine_in (fine_label q l) ≡ l
    fine_back = ap campus_label number_back

    pub priority_back : priority_at 6 (fine_label q l) ≡ q
    priority_back = let y : word_at 6 (fine_label q l) ≡ q * 2 ^ 13 + l.0 % 2 ^ 12 = word_6 ∙ num_same 2 _ (omega arith) in omega arith

  eight : length (fine_label q l) ≡ 8
  unfolding fine_label bytes_of
  eight = refl

  module _ (r : List ℕ) where
    pub not_tag : is_tag (fine_label q l ++ r) ≡ false
    unfolding fine_label bytes_of starts_with both
    not_tag = refl

    first_fine : is_fine (fine_label q l ++ r) ≡ true
    unfolding fine_label bytes_of starts_with both
    first_fine = refl

    second_fine : is_fine (drop 4 (fine_label q l ++ r)) ≡ true
    unfolding fine_label bytes_of starts_with both
    second_fine = refl

    label_long : label_length (fine_label q l ++ r) ≡ Ok 8
    unfolding label_length
    label_long =
        let n = length-append (fine_label q l) r in
        let e = eight in
        check_pass _ _ _ (le-leb 2 (length (fine_label q l ++ r)) (omega arith))
        ∙ pick_false _ _ _ not_tag
        ∙ check_pass _ _ _ first_fine
        ∙ check_pass _ _ _ (le-leb 4 (length (fine_label q l ++ r)) (omega arith))
        ∙ check_pass _ _ _ (le-leb 6 (length (fine_label q l ++ r)) (omega arith))
        ∙ check_pass _ _ _ second_fine
        ∙ check_pass _ _ _ (le-leb 8 (length (fine_label q l ++ r)) (omega arith))

-- ---- the header

module _ (u : Given) (m : u.multicast ≤ 1) (h : u.hops ≤ 63) where
  word_0 : (r : List ℕ) → word_at 0 (header_of u ++ r) ≡ num (bytes_of 2 (u.multicast * 2 ^ 11 + u.hops))
  unfolding header_of bytes_of
  word_0 r = refl

  word_alone : word_at 0 (header_of u) ≡ num (bytes_of 2 (u.multicast * 2 ^ 11 + u.hops))
  unfolding header_of bytes_of
  word_alone = refl

  six : length (header_of u) ≡ 6
  unfolding header_of bytes_of
  six = refl

  word_is : num (bytes_of 2 (u.multicast * 2 ^ 11 + u.hops)) ≡ u.multicast * 2 ^ 11 + u.hops
  word_is = num_same 2 _ (omega arith)

  header_long : (d : Front) → agrees d (multicast_of (header_of u)) ≡ true → (r : List ℕ) → header_length d (header_of u ++ r) ≡ Ok 6
  unfolding header_length
  header_long d a r =
      let n = length-append (header_of u) r in
      let e = six in
      let w : word_at 0 (header_of u ++ r) ≡ u.multicast * 2 ^ 11 + u.hops = word_0 r ∙ word_is in
      let z : option_length (header_of u ++ r) ≡ 0 = omega arith in
      let s : word_at 0 (header_of u ++ r) ≡ word_at 0 (header_of u) = word_0 r ∙ sym word_alone in
      check_pass _ _ _ (le-leb 6 (length (header_of u ++ r)) (omega arith))
      ∙ check_pass _ _ _ (eq-eqb (version_of (header_of u ++ r)) 0 (omega arith))
      ∙ check_pass _ _ _ (ap (λ (k : ℕ). agrees d (k / 2 ^ 11 % 2 ^ 1)) s ∙ a)
      ∙ check_pass _ _ _ (le-leb (header_bytes (header_of u ++ r)) (length (header_of u ++ r)) (omega arith))
      ∙ ap (λ (k : ℕ). Ok (6 + 4 * k)) z

  -- ---- the frame

  module _ (n : Native) (l : CampusLabel) (six-d : length n.dst ≡ 6) (six-s : length n.src ≡ 6) (some : 2 ≤ length n.content) where
    pub fields_good : Good (fields_for u n l)
    unfolding fields_for
    fields_good = record {
      dst = six-d;
      src = six-s;
      label = λ r. label_long n.priority l r ∙ ap Ok (sym (eight n.priority l));
      header = λ d a r. header_long d a r ∙ ap Ok (sym six);
      content = some;
    }

    -- a General frame of ingress is read as what it was made of, by any port that reads it as General
    pub ingress_reads : (d : Front) → agrees d (multicast_of (fields_for u n l).header) ≡ true → general d (general_for u n l) ≡ Ok (fields_for u n l)
    unfolding general_for general_tail
    ingress_reads d a =
        let x = length-append (bytes_of address_bytes u.destination) (bytes_of address_bytes u.source) in
        let y = length-bytes_of address_bytes u.destination in
        let z = length-bytes_of address_bytes u.source in
        ap (general d) (sym (append_assoc (bytes_of address_bytes u.destination) (bytes_of address_bytes u.source) _))
        ∙ general_reads d (fields_for u n l) fields_good a (bytes_of address_bytes u.destination ++ bytes_of address_bytes u.source) (omega arith)

-- ---- the native frame comes back, DEI 0

module _ (f : List ℕ) (bytes : AreBytes f) (long : 16 ≤ length f) (tagged : is_tag (drop 12 f) ≡ true) where
  tag_there : take 2 (drop 12 f) ≡ tag_type
  tag_there = let d = length-drop 12 f in ap (take 2) (starts_is 0x81 0x00 (drop 12 f) (omega arith) tagged)

  first_fourteen : take 14 f ≡ take 6 f ++ (take 6 (drop 6 f) ++ tag_type)
  first_fourteen = take-add 6 8 f ∙ ap (λ (x : List ℕ). take 6 f ++ x) (take-add 6 2 (drop 6 f) ∙ ap (λ (x : List ℕ). take 6 (drop 6 f) ++ x) (ap (take 2) (drop-drop 6 6 f) ∙ tag_there))

  pub tag_back : (u : Given) (l : CampusLabel) → l.0 ≤ 0xFF_FFFF
      → tagged_bytes (fields_for u (native_of f) l) (tag_word (fields_for u (native_of f) l).label (port_vlan (low12 14 f))) ≡ without_dei f
  unfolding tagged_bytes fields_for tag_word
  tag_back u l small =
      let b : word_at 14 f < 256 ^ 2 = num_part_lt f 14 2 bytes long in
      rw (priority_back (word_at 14 f / 2 ^ 13) l (omega arith) small, first_fourteen)
      (sym (append_assoc (take 6 f) (take 6 (drop 6 f) ++ tag_type) _
      ∙ ap (λ (x : List ℕ). take 6 f ++ x) (append_assoc (take 6 (drop 6 f)) tag_type _)))

  pub dei_length : length (without_dei f) ≡ length f
  dei_length =
      let a = length-take-le 14 f (omega arith) in
      let d = length-drop 16 f in
      simp (length-append, a, length-bytes_of 2 (word_at 14 f / 2 ^ 13 * 2 ^ 13 + low12 14 f), d) (omega arith)
