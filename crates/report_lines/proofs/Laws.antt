-- Laws of one line: its parts one after the other, or as one number.
-- Assumes nothing.
use Prim.Native.Nat.{ℕ, suc, ◌+◌, ◌*◌, ◌/◌, ◌%◌, ◌^◌, ◌≤◌}
use mathlib.Core.Bool.{Bool, true, false, ◌&&◌}
use mathlib.Core.List.{List, [], ◌∷◌, ◌++◌, append-nil, append_assoc}
use mathlib.Core.Path.{◌≡◌, refl, sym, ap, ◌∙◌}
use native.Mathlib.Omega.{arith}
use lib.Dec.{eqb}
use lib.ListN.{length, take, length-append, take-append-drop}
use borrow.Author.Tests.{ne_eqb, eqb-true}
use Rattle.numbers.specs.Tests.{pick}
use Rattle.numbers.specs.Bytes.{bytes_of}
use Rattle.numbers.proofs.Bytes.{length-bytes_of, bytes_of_join}
use Rattle.frame_copy.specs.Areas.{pasted}
use Rattle.report.specs.Text.{space, line_feed, hexadecimal, width_of, decimal, digits_of, line_text}
use Rattle.report.proofs.Digits.{length_digits, length-decimal, length_line}
use Rattle.report_digits.proofs.Laws.{then-pasted, width_1, sign_digit}
use Rattle.report_rows.specs.Rows.{row_text}
use Rattle.report_rows.proofs.Lines.{no_line}

length-hexadecimal : (x : ℕ) → length (hexadecimal x) ≡ 4
unfolding hexadecimal
length-hexadecimal x = length_digits 16 4 x

-- a byte and a count
pub after_pasted : (o o₁ o₂ : List ℕ) (at b n : ℕ) → at ≤ length o → o₁ ≡ pasted o at (b ∷ []) → o₂ ≡ pasted o₁ (at + 1) (decimal n) → o₂ ≡ pasted o at (b ∷ decimal n)
after_pasted o o₁ o₂ at b n h first second = then-pasted o o₁ o₂ (b ∷ []) (decimal n) (b ∷ decimal n) at (at + 1) first second h refl refl

module _ (o o₁ o₂ o₃ o₄ : List ℕ) (x l c at b e : ℕ) (h : at ≤ length o)
    (first : o₁ ≡ pasted o at (hexadecimal x))
    (second : o₂ ≡ pasted o₁ (at + 4) (space ∷ decimal (l)))
    (eb : b ≡ at + 4 + 1 + width_of (l))
    (third : o₃ ≡ pasted o₂ b (space ∷ decimal (c)))
    (ee : e ≡ b + 1 + width_of (c))
    (fourth : o₄ ≡ pasted o₃ e (line_feed ∷ [])) where
  pub line_pasted : o₄ ≡ pasted o at (line_text x l c)
  unfolding line_text
  line_pasted =
      let h4 = hexadecimal x in
      let l1 = space ∷ decimal l in
      let c1 = space ∷ decimal c in
      let lx = length-hexadecimal x in
      let ll : length l1 ≡ 1 + width_of l = ap suc (length-decimal l) ∙ omega arith in
      let lc : length c1 ≡ 1 + width_of c = ap suc (length-decimal c) ∙ omega arith in
      let two : o₂ ≡ pasted o at (h4 ++ l1) = then-pasted o o₁ o₂ h4 l1 (h4 ++ l1) at (at + 4) first second h (omega arith) refl in
      let l2 : length (h4 ++ l1) ≡ 4 + (1 + width_of l) = length-append h4 l1 ∙ omega arith in
      let three : o₃ ≡ pasted o at ((h4 ++ l1) ++ c1) = then-pasted o o₂ o₃ (h4 ++ l1) c1 ((h4 ++ l1) ++ c1) at b two third h (omega arith) refl in
      let l3 : length ((h4 ++ l1) ++ c1) ≡ 4 + (1 + width_of l) + (1 + width_of c) = length-append (h4 ++ l1) c1 ∙ omega arith in
      then-pasted o o₃ o₄ ((h4 ++ l1) ++ c1) (line_feed ∷ []) (h4 ++ (l1 ++ (c1 ++ line_feed ∷ []))) at e three fourth h (omega arith) (simp append_assoc)

  pub line_end : e + 1 ≡ at + length (line_text x l c)
  line_end = let n = length_line x l c in omega arith

-- a line with two counts of one digit, as a number and the line feed
short_counts : (l c : ℕ) → l ≤ 9 → c ≤ 9 → bytes_of 4 (0x20302030 + l * 0x1_0000 + c) ++ line_feed ∷ [] ≡ space ∷ decimal l ++ (space ∷ decimal c ++ line_feed ∷ [])
unfolding bytes_of decimal digits_of
short_counts l c hl hc =
    let w : ℕ = 0x20302030 + l * 0x1_0000 + c in
    let one : w / 256 ^ 3 % 256 ≡ 0x20 = omega arith in
    let two : w / 256 ^ 2 % 256 ≡ 0x30 + l = omega arith in
    let three : w / 256 ^ 1 % 256 ≡ 0x20 = omega arith in
    let four : w / 256 ^ 0 % 256 ≡ 0x30 + c = omega arith in
    let dl : l / 10 ^ 0 % 10 ≡ l = omega arith in
    let dc : c / 10 ^ 0 % 10 ≡ c = omega arith in
    rw (width_1 l hl, width_1 c hc, dl, dc, one, two, three, four, sign_digit l hl, sign_digit c hc)

pub short_line : (x l c h : ℕ) → l ≤ 9 → c ≤ 9 → bytes_of 4 h ≡ hexadecimal x → bytes_of 8 (h * 0x1_0000_0000 + 0x20302030 + l * 0x1_0000 + c) ++ line_feed ∷ [] ≡ line_text x l c
unfolding line_text
short_line x l c h hl hc e =
    let whole : h * 0x1_0000_0000 + 0x20302030 + l * 0x1_0000 + c ≡ h * 256 ^ 4 + (0x20302030 + l * 0x1_0000 + c) = omega arith in
    rw (whole, bytes_of_join 4 4 h (0x20302030 + l * 0x1_0000 + c) (omega arith), e)
    (append_assoc (hexadecimal x) (bytes_of 4 (0x20302030 + l * 0x1_0000 + c)) (line_feed ∷ []) ∙ ap (λ (t : List ℕ). hexadecimal x ++ t) (short_counts l c hl hc))

pub short_length : (x l c : ℕ) → l ≤ 9 → c ≤ 9 → length (line_text x l c) ≡ 9
short_length x l c hl hc =
    let n = length_line x l c in
    let a = width_1 l hl in
    let b = width_1 c hc in
    omega arith

pub short_pasted : (o o₁ o₂ : List ℕ) (at x l c h : ℕ) → at ≤ length o → l ≤ 9 → c ≤ 9 → bytes_of 4 h ≡ hexadecimal x → o₁ ≡ pasted o at (bytes_of 8 (h * 0x1_0000_0000 + 0x20302030 + l * 0x1_0000 + c)) → o₂ ≡ pasted o₁ (at + 8) (line_feed ∷ []) → o₂ ≡ pasted o at (line_text x l c)
short_pasted o o₁ o₂ at x l c h in-o hl hc e first second =
    then-pasted o o₁ o₂ _ (line_feed ∷ []) (line_text x l c) at (at + 8) first second in-o (rw (length-bytes_of 8 (h * 0x1_0000_0000 + 0x20302030 + l * 0x1_0000 + c)) refl) (short_line x l c h hl hc e)

-- whether there is a line
pub pasted_none : (o : List ℕ) (at : ℕ) → o ≡ pasted o at []
unfolding pasted
pasted_none o at = let same : at + 0 ≡ at = omega arith in rw (same, append-nil (take at o)) (sym (take-append-drop at o))

module _ (l c : ℕ) where
  pub line_none : eqb l 0 && eqb c 0 ≡ true → (x : ℕ) → row_text x l c ≡ []
  line_none e x =
      let p = go (eqb l 0) (eqb c 0) e in
      no_line x l c (eqb-true l 0 p.0) (eqb-true c 0 p.1)
    where
      go : (a b : Bool) → a && b ≡ true → (a ≡ true) × (b ≡ true)
      go true b h = (refl, h)
      go false b h = let z : ◌≡◌ {A = ℕ} 0 1 = cc in absurd (omega arith)

  pub line_some : eqb l 0 && eqb c 0 ≡ false → (x : ℕ) → row_text x l c ≡ line_text x l c
  unfolding row_text pick
  line_some e x = rw (ne_eqb (l + c) 0 (λ z. go (omega arith) (omega arith)))
    where
      go : l ≡ 0 → c ≡ 0 → ⊥
      go p q = let y : eqb l 0 && eqb c 0 ≡ true = rw (p, q) in let z : ◌≡◌ {A = ℕ} 0 1 = cc in omega arith

  -- as a callee and a caller see it
  pub some_room : eqb l 0 && eqb c 0 ≡ false → (x at n : ℕ) → at + length (row_text x l c) ≤ n → at + length (line_text x l c) ≤ n
  some_room e x at n h = let same = ap length (line_some e x) in omega arith

  pub some_put : eqb l 0 && eqb c 0 ≡ false → (x at r : ℕ) (o u : List ℕ) → u ≡ pasted o at (line_text x l c) → r ≡ at + length (line_text x l c) → (u ≡ pasted o at (row_text x l c)) × (r ≡ at + length (row_text x l c))
  some_put e x at r o u p q = rw (line_some e x) (p, q)

  pub none_put : eqb l 0 && eqb c 0 ≡ true → (x at : ℕ) (o : List ℕ) → (o ≡ pasted o at (row_text x l c)) × (at ≡ at + length (row_text x l c))
  none_put e x at o = rw (line_none e x) (pasted_none o at, omega arith)
