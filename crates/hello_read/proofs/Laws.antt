-- The sections one behind the other are the contents; each way out of the call is an outcome of the definition.
-- Assumes nothing.
use Prim.Native.Nat.{ℕ, ◌+◌, ◌-◌, ◌*◌, ◌/◌, ◌<◌, ◌≤◌}
use mathlib.Core.Bool.{Bool, true, false, not}
use mathlib.Core.List.{List, ◌++◌, flat_map, append_assoc}
use mathlib.Core.Path.{◌≡◌, refl, sym, ap, ◌∙◌}
use native.Mathlib.Omega.{arith}
use lib.Dec.{leb}
use lib.ListN.{length, length-append}
use borrow.Author.Tests.{le-leb, lt-leb, leb-true, leb-false}
use Rattle.numbers.specs.Tests.{any_of}
use Rattle.numbers.specs.Bytes.{laid}
use Rattle.numbers.specs.Result.{Outcome, check, and_then, settled, finished}
use Rattle.numbers.specs.After.{on_area}
use Rattle.convert.specs.Compaction.{written}
use Rattle.frame_copy.specs.Areas.{pasted}
use Rattle.frame_copy.proofs.Copying.{paste_next, paste_laid}
use Rattle.hello.specs.Contents.{Contents, Item}
use Rattle.hello.specs.Reading.{is_malformed, parameters_in, gathered, items, single, understood, hello_read, refusal_of}
use Rattle.hello.specs.Area.{area_of}
use Rattle.hello.specs.Calls.{area_read, answered, read_call}
use Rattle.hello_judge.specs.declared.Counts.{Counts}
use Rattle.hello_judge.specs.Counting.{walked, nothing, counting, refusal_for}
use Rattle.hello_judge.proofs.Sums.{judged}
use Rattle.hello_count.specs.Sections.{brought, joined, section}
use Rattle.hello_count.proofs.Sections.{sections, numbers_22, numbers_6, numbers_8, numbers_23}
use Rattle.hello_words.specs.Words.{words}
use Rattle.hello_words.proofs.Words.{length-words, words_append}
use Rattle.hello_fill.specs.Filling.{section_words}
use Rattle.hello_fill.proofs.Apart.{length-pasted, paste_apart}
use Rattle.hello_read.specs.Sections.{all_words}
use Rattle.std.specs.Prelude.{Ok, Err}
use Rattle.numbers.specs.declared.refusals.Refusal.TheVariants.{AreaShort, HelloMalformed, ParametersMissing}
use Rattle.numbers.specs.declared.refusals.Refusal.{Refusal}
use Rattle.numbers.proofs.Answers.{refused_got}

-- ---- whether they fit

module _ (room a b c d : ℕ) where
  pub fits_none : room < 4 → false ≡ leb (4 + (a + (b + (c + d)))) room
  fits_none h = sym (lt-leb (4 + (a + (b + (c + d)))) room (omega arith))

  pub fits_one : 4 ≤ room → room - 4 < a → false ≡ leb (4 + (a + (b + (c + d)))) room
  fits_one g h = sym (lt-leb (4 + (a + (b + (c + d)))) room (omega arith))

  pub fits_two : 4 ≤ room → a ≤ room - 4 → room - 4 - a < b → false ≡ leb (4 + (a + (b + (c + d)))) room
  fits_two g f h = sym (lt-leb (4 + (a + (b + (c + d)))) room (omega arith))

  pub fits_three : 4 ≤ room → a ≤ room - 4 → b ≤ room - 4 - a → room - 4 - a - b < c → false ≡ leb (4 + (a + (b + (c + d)))) room
  fits_three g f e h = sym (lt-leb (4 + (a + (b + (c + d)))) room (omega arith))

  pub fits_all : 4 ≤ room → a ≤ room - 4 → b ≤ room - 4 - a → c ≤ room - 4 - a - b → leb d (room - 4 - a - b - c) ≡ leb (4 + (a + (b + (c + d)))) room
  fits_all g f e h = go (leb d (room - 4 - a - b - c)) refl
    where
      go : (r : Bool) → leb d (room - 4 - a - b - c) ≡ r → r ≡ leb (4 + (a + (b + (c + d)))) room
      go true q = let k = leb-true d (room - 4 - a - b - c) q in sym (le-leb (4 + (a + (b + (c + d)))) room (omega arith))
      go false q = let k = leb-false d (room - 4 - a - b - c) q in sym (lt-leb (4 + (a + (b + (c + d)))) room (omega arith))

-- ---- the sections

pub all-length : (is : List Item) → length (all_words is) ≡ length (section_words 22 is) + (length (section_words 6 is) + (length (section_words 8 is) + length (section_words 23 is)))
unfolding all_words
all-length is =
    let a = length-append (section_words 22 is) (section_words 6 is ++ (section_words 8 is ++ section_words 23 is)) in
    let b = length-append (section_words 6 is) (section_words 8 is ++ section_words 23 is) in
    let c = length-append (section_words 8 is) (section_words 23 is) in
    omega arith

module _ (l out : List ℕ) (room : length (all_words (items l)) ≤ length out) (n t m : ℕ) (en : n ≡ length (section_words 22 (items l))) (et : t ≡ n + length (section_words 6 (items l))) (em : m ≡ t + length (section_words 8 (items l))) where
  -- the first and the last section are written before the two between them
  pub sections_put : (o u : List ℕ) → o ≡ pasted (pasted out 0 (section_words 22 (items l))) m (section_words 23 (items l)) → u ≡ pasted (pasted o n (section_words 6 (items l))) t (section_words 8 (items l)) → u ≡ laid (all_words (items l)) out
  unfolding all_words
  sections_put o u p q =
      let x : List ℕ = section_words 22 (items l) in
      let y : List ℕ = section_words 6 (items l) in
      let z : List ℕ = section_words 8 (items l) in
      let w : List ℕ = section_words 23 (items l) in
      let e = all-length (items l) in
      let i = length-append x y in
      let j = length-append (x ++ y) z in
      let a = length-pasted out x 0 (omega arith) in
      let b = length-pasted (pasted out 0 x) y n (omega arith) in
      let c : pasted o n y ≡ pasted (pasted (pasted out 0 x) n y) m w = ap (λ (s : List ℕ). pasted s n y) p ∙ paste_apart (pasted out 0 x) y w n m (omega arith) (omega arith) in
      let d : pasted (pasted o n y) t z ≡ pasted (pasted (pasted (pasted out 0 x) n y) t z) m w = ap (λ (s : List ℕ). pasted s t z) c ∙ paste_apart (pasted (pasted out 0 x) n y) z w t m (omega arith) (omega arith) in
      let e₂ : pasted (pasted out 0 x) n y ≡ pasted out 0 (x ++ y) = paste_next out x y 0 n (omega arith) (omega arith) in
      let e₃ : pasted (pasted out 0 (x ++ y)) t z ≡ pasted out 0 ((x ++ y) ++ z) = paste_next out (x ++ y) z 0 t (omega arith) (omega arith) in
      let e₄ : pasted (pasted out 0 ((x ++ y) ++ z)) m w ≡ pasted out 0 (((x ++ y) ++ z) ++ w) = paste_next out ((x ++ y) ++ z) w 0 m (omega arith) (omega arith) in
      q ∙ d ∙ rw (e₂, e₃, e₄) (ap (pasted out 0) (append_assoc (x ++ y) z w ∙ append_assoc x y (z ++ w)) ∙ paste_laid out (x ++ (y ++ (z ++ w))))

-- ---- they are the contents

contents_are : (is : List Item) → area_of (gathered is) ≡ all_words is
unfolding area_of all_words section_words words
contents_are is =
    ap words (sections is)
    ∙ words_append (section 22 is) (section 6 is ++ (section 8 is ++ section 23 is))
    ∙ ap (λ (x : List ℕ). words (section 22 is) ++ x) (words_append (section 6 is) (section 8 is ++ section 23 is) ∙ ap (λ (x : List ℕ). words (section 6 is) ++ x) (words_append (section 8 is) (section 23 is)))

section-length : (k : ℕ) (is : List Item) → length (section_words k is) ≡ 8 + 8 * length (joined (flat_map (brought k) is))
unfolding section_words section
section-length k is = let n = length-words (section k is) in omega arith

-- the sizes of the sections by the counts
module _ (l : List ℕ) (c : Counts) (ec : c ≡ walked counting nothing (items l)) where
  pub size_22 : 8 + 8 * c.parameter_numbers ≡ length (section_words 22 (items l))
  size_22 = let n = section-length 22 (items l) in let e = numbers_22 (items l) c ec in omega arith

  pub size_6 : 8 + 8 * c.nickname_numbers ≡ length (section_words 6 (items l))
  size_6 = let n = section-length 6 (items l) in let e = numbers_6 (items l) c ec in omega arith

  pub size_8 : 8 + 8 * c.tree_numbers ≡ length (section_words 8 (items l))
  size_8 = let n = section-length 8 (items l) in let e = numbers_8 (items l) c ec in omega arith

  pub size_23 : 8 + 8 * c.mac_numbers ≡ length (section_words 23 (items l))
  size_23 = let n = section-length 23 (items l) in let e = numbers_23 (items l) c ec in omega arith

  total : length (all_words (items l)) ≡ 8 * (4 + (c.parameter_numbers + (c.nickname_numbers + (c.tree_numbers + c.mac_numbers))))
  total =
      let n = all-length (items l) in
      let w = size_22 in
      let x = size_6 in
      let y = size_8 in
      let z = size_23 in
      omega arith

  module _ (out : List ℕ) (r : Bool) (er : r ≡ leb (4 + (c.parameter_numbers + (c.nickname_numbers + (c.tree_numbers + c.mac_numbers)))) (length out / 8)) where
    pub fit_room : r ≡ true → length (all_words (items l)) ≤ length out
    fit_room e =
        let t = total in
        let h = leb-true (4 + (c.parameter_numbers + (c.nickname_numbers + (c.tree_numbers + c.mac_numbers)))) (length out / 8) (sym er ∙ e) in
        omega arith

    no_room : r ≡ false → length out < length (all_words (items l))
    no_room e =
        let t = total in
        let h = leb-false (4 + (c.parameter_numbers + (c.nickname_numbers + (c.tree_numbers + c.mac_numbers)))) (length out / 8) (sym er ∙ e) in
        omega arith

-- ---- the call

refused_call : (r : Outcome Contents) (out : List ℕ) (j : Outcome (Unit {0})) (n : Refusal) → j ≡ refusal_of r → j ≡ Err n → on_area (Err n) out ≡ answered (and_then r λ c. Ok (area_of c)) out
unfolding answered and_then settled
refused_call (Err m) out j n e d = let same : n ≡ m = cc in rw same
refused_call (Ok c) out j n e d = refused_got n _ (sym d ∙ e)

pub refused_way : (l out : List ℕ) (c : Counts) → c ≡ walked counting nothing (items l) → (j : Outcome (Unit {0})) → j ≡ refusal_for c → (n : Refusal) → j ≡ Err n → on_area (Err n) out ≡ read_call l out
unfolding read_call area_read
refused_way l out c ec j e n d = refused_call (hello_read l) out j n (judged l c ec j e) d

single_got : (a b : Bool) (c : Contents) → refusal_of (check a HelloMalformed (check b ParametersMissing (Ok c))) ≡ finished → check a HelloMalformed (check b ParametersMissing (Ok c)) ≡ Ok c
unfolding check
single_got true true c e = refl
single_got true false c e = refused_got _ _ e
single_got false b c e = refused_got _ _ e

understood_got : (a b d : Bool) (c : Contents) → refusal_of (check a HelloMalformed (check b HelloMalformed (check d ParametersMissing (Ok c)))) ≡ finished → check a HelloMalformed (check b HelloMalformed (check d ParametersMissing (Ok c))) ≡ Ok c
unfolding check
understood_got true b d c e = single_got b d c e
understood_got false b d c e = refused_got _ _ e

read_got : (l : List ℕ) → refusal_of (hello_read l) ≡ finished → hello_read l ≡ Ok (gathered (items l))
unfolding hello_read understood single
read_got l e = understood_got (not (any_of is_malformed (items l))) (leb (length (flat_map parameters_in (items l))) 1) (leb 1 (length (flat_map parameters_in (items l)))) (gathered (items l)) e

call_is : (l out : List ℕ) (j : Outcome (Unit {0})) → j ≡ refusal_of (hello_read l) → j ≡ finished → settled (λ n. on_area (Err n) out) (written Ok (all_words (items l)) out) ≡ read_call l out
unfolding read_call area_read answered and_then
call_is l out j e z = sym (rw (read_got l (sym e ∙ z), contents_are (items l)))

put_short : (b out : List ℕ) → length out < length b → on_area (Err AreaShort) out ≡ settled (λ n. on_area (Err n) out) (written Ok b out)
unfolding written settled check
put_short b out h = rw (lt-leb (length b) (length out) h)

put_fits : (b out : List ℕ) → length b ≤ length out → on_area (Ok (length b)) (laid b out) ≡ settled (λ n. on_area (Err n) out) (written Ok b out)
unfolding written settled check
put_fits b out h = rw (le-leb (length b) (length out) h)

module _ (l out : List ℕ) (c : Counts) (ec : c ≡ walked counting nothing (items l)) (j : Outcome (Unit {0})) (ej : j ≡ refusal_for c) (good : j ≡ finished)
    (r : Bool) (er : r ≡ leb (4 + (c.parameter_numbers + (c.nickname_numbers + (c.tree_numbers + c.mac_numbers)))) (length out / 8)) where
  pub short_way : r ≡ false → on_area (Err AreaShort) out ≡ read_call l out
  short_way e = put_short (all_words (items l)) out (no_room l c ec out r er e) ∙ call_is l out j (judged l c ec j ej) good

  pub written_way : r ≡ true → (n : ℕ) (u : List ℕ) → n ≡ length (all_words (items l)) → u ≡ laid (all_words (items l)) out → on_area (Ok n) u ≡ read_call l out
  written_way e n u en eu = rw (en, eu) (put_fits (all_words (items l)) out (fit_room l c ec out r er e) ∙ call_is l out j (judged l c ec j ej) good)
