-- Numbers as words, one behind the other in an area.
-- Assumes nothing.
use Prim.Native.Nat.{ℕ, ◌+◌, ◌-◌, ◌*◌, ◌/◌, ◌%◌, ◌^◌, ◌≤◌}
use mathlib.Core.List.{List, [], ◌∷◌, ◌++◌, map, flat_map, append-nil, append_assoc}
use mathlib.Core.Path.{◌≡◌, refl, sym, ap, ◌∙◌}
use native.Mathlib.Omega.{arith}
use lib.ListN.{length, take, drop, get_or, length-append, length-drop, length-map}
use lib.Seq.{drop-drop, take_all, length-take-le}
use borrow.Author.Tests.{eq-eqb, ne_eqb}
use Rattle.numbers.specs.Tests.{pick}
use Rattle.numbers.specs.Bytes.{num, bytes_of, parts}
use Rattle.numbers.proofs.Bytes.{length-bytes_of, num-one}
use Rattle.numbers.proofs.Lists.{part_prefix, flat_map-append}
use Rattle.numbers.proofs.Parts.{length-joined}
use Rattle.frame_copy.specs.Areas.{pasted}
use Rattle.frame_copy.proofs.Copying.{paste_next}
use Rattle.hello.specs.Reading.{parameters_of, nickname_of, trees_of, smart_mac_of, label_in}
use Rattle.hello.specs.Area.{counted, alone, parameters_numbers, nickname_numbers, trees_numbers, smart_mac_numbers}
use Rattle.hello_judge.proofs.Subs.{parts-count}
use Rattle.hello_words.specs.Words.{words, record_words, number_word, label_words}

pub length-words : (ns : List ℕ) → length (words ns) ≡ 8 * length ns
unfolding words
length-words ns = length-joined 8 (bytes_of 8) (length-bytes_of 8) ns

pub words_append : (xs ys : List ℕ) → words (xs ++ ys) ≡ words xs ++ words ys
unfolding words
words_append xs ys = flat_map-append (bytes_of 8) xs ys

words-cons : (x : ℕ) (xs : List ℕ) → words (x ∷ xs) ≡ bytes_of 8 x ++ words xs
unfolding words flat_map
words-cons x xs = refl

words-one : (x : ℕ) → words (x ∷ []) ≡ bytes_of 8 x
unfolding words flat_map
words-one x = append-nil (bytes_of 8 x)

-- bytes behind bytes of a known length
pub behind : (out o u x y : List ℕ) (at k : ℕ) → at ≤ length out → length x ≡ k → o ≡ pasted out at x → u ≡ pasted o (at + k) y → u ≡ pasted out at (x ++ y)
behind out o u x y at k h e p q = q ∙ rw p (paste_next out x y at (at + k) h (omega arith))

module _ (out o u : List ℕ) (at a b : ℕ) (room : at ≤ length out) (p : o ≡ pasted out at (bytes_of 8 a)) (q : u ≡ pasted o (at + 8) (bytes_of 8 b)) where
  two_words : u ≡ pasted out at (words (a ∷ (b ∷ [])))
  two_words = behind out o u (bytes_of 8 a) (bytes_of 8 b) at 8 room (length-bytes_of 8 a) p q ∙ ap (pasted out at) (sym (words-cons a (b ∷ []) ∙ ap (λ (x : List ℕ). bytes_of 8 a ++ x) (words-one b)))

  three_words : (w : List ℕ) (d : ℕ) → w ≡ pasted u (at + 16) (bytes_of 8 d) → w ≡ pasted out at (words (a ∷ (b ∷ (d ∷ []))))
  three_words w d r =
      let n = length-words (a ∷ (b ∷ [])) in
      behind out u w (words (a ∷ (b ∷ []))) (bytes_of 8 d) at 16 room (omega arith) two_words r
      ∙ ap (pasted out at) (sym (words_append (a ∷ (b ∷ [])) (d ∷ []) ∙ ap (λ (x : List ℕ). words (a ∷ (b ∷ [])) ++ x) (words-one d)))

-- ---- a record of 5 bytes

record_priority : (v : List ℕ) (from : ℕ) → from + 5 ≤ length v → num (take 1 (take 5 (drop from v))) ≡ get_or v from 0
record_priority v from h =
    let d = length-drop from v in
    ap num (sym (part_prefix (drop from v) 0 1 5 (omega arith) (omega arith))) ∙ num-one v from (omega arith)

record_root : (v : List ℕ) (from : ℕ) → from + 5 ≤ length v → take 2 (drop 1 (take 5 (drop from v))) ≡ take 2 (drop (from + 1) v)
record_root v from h =
    let d = length-drop from v in
    sym (part_prefix (drop from v) 1 2 5 (omega arith) (omega arith)) ∙ ap (take 2) (drop-drop 1 from v)

record_nickname : (v : List ℕ) (from : ℕ) → from + 5 ≤ length v → drop 3 (take 5 (drop from v)) ≡ take 2 (drop (from + 3) v)
record_nickname v from h =
    let d = length-drop from v in
    let b : List ℕ = take 5 (drop from v) in
    let n : length b ≡ 5 = length-take-le 5 (drop from v) (omega arith) in
    let m = length-drop 3 b in
    sym (take_all 2 (drop 3 b) (omega arith)) ∙ sym (part_prefix (drop from v) 3 2 5 (omega arith) (omega arith)) ∙ ap (take 2) (drop-drop 3 from v)

module _ (v : List ℕ) (from : ℕ) (out : List ℕ) (at : ℕ) (inside : from + 5 ≤ length v) (room : at + 24 ≤ length out) where
  pub record_put : (a b d : ℕ) (o u w : List ℕ) → a ≡ get_or v from 0 → o ≡ pasted out at (bytes_of 8 a)
      → b ≡ num (take 2 (drop (from + 1) v)) → u ≡ pasted o (at + 8) (bytes_of 8 b)
      → d ≡ num (take 2 (drop (from + 3) v)) → w ≡ pasted u (at + 16) (bytes_of 8 d)
      → w ≡ pasted out at (record_words (take 5 (drop from v)))
  unfolding record_words nickname_numbers nickname_of
  record_put a b d o u w ea p eb q ed r =
      three_words out o u at a b (omega arith) p q w d r
      ∙ rw (record_priority v from inside, record_root v from inside, record_nickname v from inside, ← ea, ← eb, ← ed)

pub first_record_put : (v out : List ℕ) (at : ℕ) → 5 ≤ length v → at + 24 ≤ length out → (a b d : ℕ) (o u w : List ℕ) → a ≡ get_or v 0 0 → o ≡ pasted out at (bytes_of 8 a)
    → b ≡ num (take 2 (drop 1 v)) → u ≡ pasted o (at + 8) (bytes_of 8 b)
    → d ≡ num (take 2 (drop 3 v)) → w ≡ pasted u (at + 16) (bytes_of 8 d)
    → w ≡ pasted out at (record_words (take 5 v))
first_record_put v out at h room a b d o u w ea p eb q ed r = record_put v 0 out at h room a b d o u w ea p eb q ed r

-- ---- the parts of each sub-TLV

module _ (v out : List ℕ) (at : ℕ) (four : length v ≡ 4) (room : at + 16 ≤ length out) where
  pub parameters_put : (a b : ℕ) (o u : List ℕ) → a ≡ num (take 2 v) → o ≡ pasted out at (bytes_of 8 a)
      → b ≡ num (take 2 (drop 2 v)) → u ≡ pasted o (at + 8) (bytes_of 8 b)
      → u ≡ pasted out at (words (parameters_numbers (parameters_of v)))
  unfolding parameters_numbers parameters_of
  parameters_put a b o u ea p eb q =
      let d = length-drop 2 v in
      let e : take 2 (drop 2 v) ≡ drop 2 v = take_all 2 (drop 2 v) (omega arith) in
      two_words out o u at a b (omega arith) p q ∙ rw (ea, eb, e)

-- lists of what is in parts
flat_through : {A B : Type 0} (g : B → List ℕ) (e : A → B) (f : A → List ℕ) → ((x : A) → words (g (e x)) ≡ f x) → (xs : List A) → words (flat_map g (map e xs)) ≡ flat_map f xs
unfolding flat_map words
flat_through g e f h [] = refl
flat_through g e f h (x ∷ xs) = flat_map-append (bytes_of 8) (g (e x)) (flat_map g (map e xs)) ∙ rw (h x, flat_through g e f h xs)

record_words_lem : (b : List ℕ) → words (nickname_numbers (nickname_of b)) ≡ record_words b
unfolding record_words
record_words_lem b = refl

number_words : (b : List ℕ) → words (alone (num b)) ≡ number_word b
unfolding alone number_word
number_words b = words-one (num b)

counted_words : {A : Type 0} (g : A → List ℕ) (e : List ℕ → A) (f : List ℕ → List ℕ) → ((b : List ℕ) → words (g (e b)) ≡ f b) → (ps : List (List ℕ)) (n : ℕ) → length ps ≡ n → words (counted g (map e ps)) ≡ bytes_of 8 n ++ flat_map f ps
unfolding counted
counted_words g e f h ps n c =
    words-cons (length (map e ps)) (flat_map g (map e ps))
    ∙ rw (length-map ps e, c, flat_through g e f h ps)

module _ (v out : List ℕ) (at : ℕ) (whole : length v % 5 ≡ 0) (room : at + 8 * (1 + 3 * (length v / 5)) ≤ length out) where
  pub nicknames_put : (n : ℕ) (o u : List ℕ) → n ≡ length v / 5 → o ≡ pasted out at (bytes_of 8 n) → u ≡ pasted o (at + 8) (flat_map record_words (parts 5 v))
      → u ≡ pasted out at (words (counted nickname_numbers (map nickname_of (parts 5 v))))
  nicknames_put n o u en p q =
      let c = parts-count 5 (omega arith) n v (omega arith) in
      behind out o u (bytes_of 8 n) (flat_map record_words (parts 5 v)) at 8 (omega arith) (length-bytes_of 8 n) p q
      ∙ ap (pasted out at) (sym (counted_words nickname_numbers nickname_of record_words record_words_lem (parts 5 v) n c))

module _ (v out : List ℕ) (at : ℕ) (some : 2 ≤ length v) (whole : length v % 2 ≡ 0) (room : at + 8 * (2 + (length v - 2) / 2) ≤ length out) where
  pub trees_put : (a n : ℕ) (o u w : List ℕ) → a ≡ num (take 2 v) → o ≡ pasted out at (bytes_of 8 a)
      → n ≡ (length v - 2) / 2 → u ≡ pasted o (at + 8) (bytes_of 8 n)
      → w ≡ pasted u (at + 16) (flat_map number_word (parts 2 (drop 2 v)))
      → w ≡ pasted out at (words (trees_numbers (trees_of v)))
  unfolding trees_numbers trees_of
  trees_put a n o u w ea p en q s =
      let ps : List (List ℕ) = parts 2 (drop 2 v) in
      let d = length-drop 2 v in
      let c = parts-count 2 (omega arith) n (drop 2 v) (omega arith) in
      let m = length-words (a ∷ (n ∷ [])) in
      behind out u w (words (a ∷ (n ∷ []))) (flat_map number_word ps) at 16 (omega arith) (omega arith) (two_words out o u at a n (omega arith) p q) s
      ∙ ap (pasted out at) (rw (words-cons a (n ∷ []), words-one n, append_assoc (bytes_of 8 a) (bytes_of 8 n) (flat_map number_word ps)) (sym (words-cons (num (take 2 v)) _ ∙ rw (counted_words alone num number_word number_words ps n c, ← ea))))

module _ (x : ℕ) (out : List ℕ) (at : ℕ) (room : at + 24 ≤ length out) where
  pub label_put : (d : ℕ) (o u w : List ℕ) → o ≡ pasted out at (bytes_of 8 (x / 2147483648 % 2)) → u ≡ pasted o (at + 8) (bytes_of 8 (x / 1073741824 % 2))
      → d ≡ label_in x → w ≡ pasted u (at + 16) (bytes_of 8 d)
      → w ≡ pasted out at (label_words x)
  unfolding label_words
  label_put d o u w p q ed r = three_words out o u at _ _ (omega arith) p q w d r ∙ rw ed

module _ (v out : List ℕ) (at : ℕ) (some : 4 ≤ length v) (whole : (length v - 4) % 6 ≡ 0) (room : at + 8 * (4 + (length v - 4) / 6) ≤ length out) where
  label_length_lem : (x : ℕ) → length (label_words x) ≡ 24
  unfolding label_words
  label_length_lem x = length-words _

  mac_words : (x n : ℕ) → x ≡ num (take 4 v) → n ≡ (length v - 4) / 6 → words (smart_mac_numbers (smart_mac_of v)) ≡ label_words x ++ (bytes_of 8 n ++ flat_map number_word (parts 6 (drop 4 v)))
  unfolding smart_mac_numbers smart_mac_of label_words
  mac_words x n ex en =
      let ps : List (List ℕ) = parts 6 (drop 4 v) in
      let d = length-drop 4 v in
      let c = parts-count 6 (omega arith) n (drop 4 v) (omega arith) in
      rw (← ex) (words_append ((x / 2 ^ 31 % 2) ∷ ((x / 2 ^ 30 % 2) ∷ (label_in x ∷ []))) (counted alone (map num ps)) ∙ rw (counted_words alone num number_word number_words ps n c))

  pub mac_put : (x n : ℕ) (o u w : List ℕ) → x ≡ num (take 4 v) → o ≡ pasted out at (label_words x)
      → n ≡ (length v - 4) / 6 → u ≡ pasted o (at + 24) (bytes_of 8 n)
      → w ≡ pasted u (at + 32) (flat_map number_word (parts 6 (drop 4 v)))
      → w ≡ pasted out at (words (smart_mac_numbers (smart_mac_of v)))
  mac_put x n o u w ex p en q s =
      let ps : List (List ℕ) = parts 6 (drop 4 v) in
      let m = label_length_lem x in
      let l = length-bytes_of 8 n in
      let k = length-append (label_words x) (bytes_of 8 n) in
      behind out u w (label_words x ++ bytes_of 8 n) (flat_map number_word ps) at 32 (omega arith) (omega arith) (behind out o u (label_words x) (bytes_of 8 n) at 24 (omega arith) m p q) s
      ∙ ap (pasted out at) (append_assoc (label_words x) (bytes_of 8 n) (flat_map number_word ps) ∙ sym (mac_words x n ex en))

-- the label
module _ (x : ℕ) where
  pub label_fine : x / 2147483648 % 2 ≡ 1 → x % 16777216 ≡ label_in x
  unfolding label_in pick
  label_fine e = rw (eq-eqb (x / 2147483648 % 2) 1 e)

  pub label_vlan : (x / 2147483648 % 2 ≡ 1 → ⊥) → x % 4096 ≡ label_in x
  unfolding label_in pick
  label_vlan d = rw (ne_eqb (x / 2147483648 % 2) 1 d)
