-- Sub-TLVs placed one after the other: cursor and area stand for what the definition has closed, and the TLV that it has open.
-- Assumes nothing.
use Prim.Native.Nat.{ℕ, ◌+◌, ◌-◌, ◌<◌, ◌≤◌}
use mathlib.Core.Bool.{Bool, true, false}
use mathlib.Core.List.{List, [], ◌∷◌, ◌++◌, append_assoc}
use mathlib.Core.Path.{◌≡◌, refl, sym, ap, ◌∙◌}
use native.Mathlib.Omega.{arith}
use native.Mathlib.Nat.{zero-add}
use lib.Dec.{leb, eqb}
use lib.ListN.{length, drop, set, length-append, length-set}
use lib.Seq.{set-append_left}
use borrow.Author.Tests.{eqb-true, ne_eqb, le-leb, lt-leb, leb-true, leb-false}
use Rattle.numbers.specs.Tests.{pick, both}
use Rattle.numbers.proofs.Truth.{both_true}
use Rattle.frame_copy.specs.Areas.{pasted}
use Rattle.frame_copy.proofs.Copying.{paste_after}
use Rattle.hello.specs.Tlvs.{tlv_bytes}
use Rattle.hello.specs.Pieces.{Sub}
use Rattle.hello.specs.Writing.{head_of, sub_bytes, joins, grouped, tlvs_of}
use Rattle.hello.proofs.Loops.{loop_joins, loop_new, grown}
use Rattle.hello_put.specs.declared.Cursor.{Cursor}
use Rattle.hello_put.specs.Placing.{unopened, takes, stepped, opening, opened, stepped_by, placed, stepped_all, placed_all}
use Rattle.hello_put.proofs.Laws.{step_grows}

-- the cursor that stands for what is closed and the TLV that is open
abbrev pub standing : List ℕ → ℕ → List ℕ → Cursor
standing done h b = record { holder = h; start = length done; at = length done + (2 + length b) }

-- an area that starts with what was written
start_is : (area w : List ℕ) → pasted area 0 w ≡ w ++ drop (length w) area
unfolding pasted
start_is area w = rw (zero-add (length w))

-- a store within what was written
store_within : (area w : List ℕ) (i v : ℕ) → i < length w → set (pasted area 0 w) i v ≡ pasted area 0 (set w i v)
store_within area w i v h =
    ap (λ (l : List ℕ). set l i v) (start_is area w)
    ∙ set-append_left w (drop (length w) area) i v h
    ∙ ap (λ (n : ℕ). set w i v ++ drop n area) (sym (length-set w i v))
    ∙ sym (start_is area (set w i v))

leb_moved : (d x n : ℕ) → leb (d + (2 + x) + n) (d + 257) ≡ leb (x + n) 255
leb_moved d x n = go (leb (x + n) 255) refl
  where
    go : (c : Bool) → leb (x + n) 255 ≡ c → leb (d + (2 + x) + n) (d + 257) ≡ c
    go true e = let h = leb-true (x + n) 255 e in le-leb (d + (2 + x) + n) (d + 257) (omega arith)
    go false e = let h = leb-false (x + n) 255 e in lt-leb (d + (2 + x) + n) (d + 257) (omega arith)

opened_with : (s : Sub) → opening s.holder (length (sub_bytes s)) ++ sub_bytes s ≡ tlv_bytes s.holder (head_of s.holder ++ sub_bytes s)
unfolding opening tlv_bytes
opened_with s = rw (length-append (head_of s.holder) (sub_bytes s))

opening-length : (h n : ℕ) → length (opening h n) ≡ 2 + length (head_of h)
unfolding opening
opening-length h n = omega arith

-- where a TLV that is open ends
open_end : (done : List ℕ) (h : ℕ) (b : List ℕ) → length (done ++ tlv_bytes h b) ≡ length done + (2 + length b)
unfolding tlv_bytes
open_end done h b = length-append done (h ∷ (length b ∷ b)) ∙ omega arith

same_cursor : (h k a b i j : ℕ) → h ≡ k → a ≡ b → i ≡ j → ◌≡◌ {A = Cursor} (record { holder = h; start = a; at = i }) (record { holder = k; start = b; at = j })
same_cursor h k a b i j p q r = rw (p, q, r)

-- ---- one of them

module _ (done : List ℕ) (h : ℕ) (b : List ℕ) (s : Sub) where
  -- the cursor's test is the definition's
  takes-joins : takes (standing done h b) s.holder (length (sub_bytes s)) ≡ joins h b s
  unfolding takes joins
  takes-joins = ap (both (eqb h s.holder)) (leb_moved (length done) (length b) (length (sub_bytes s)))

  joined_holder : joins h b s ≡ true → s.holder ≡ h
  unfolding joins
  joined_holder e = sym (eqb-true h s.holder (both_true (eqb h s.holder) _ e).0)

  step_joins : joins h b s ≡ true → stepped_by (standing done h b) s ≡ standing done h (b ++ sub_bytes s)
  unfolding stepped pick
  step_joins e =
      let n = length-append b (sub_bytes s) in
      rw (takes-joins ∙ e) (same_cursor _ _ _ _ _ _ (joined_holder e) refl (omega arith))

  step_opens : joins h b s ≡ false → stepped_by (standing done h b) s ≡ standing (done ++ tlv_bytes h b) s.holder (head_of s.holder ++ sub_bytes s)
  unfolding stepped pick
  step_opens e =
      let n = length-append (head_of s.holder) (sub_bytes s) in
      let m = open_end done h b in
      rw (takes-joins ∙ e) (same_cursor _ _ _ _ _ _ refl (omega arith) (omega arith))

  module _ (area : List ℕ) where
    placed-joins : joins h b s ≡ true → placed (pasted area 0 (done ++ tlv_bytes h b)) (standing done h b) s ≡ pasted area 0 (done ++ tlv_bytes h (b ++ sub_bytes s))
    unfolding placed opened pick
    placed-joins e =
        let w : List ℕ = done ++ tlv_bytes h b in
        let x : List ℕ = sub_bytes s in
        let m = open_end done h b in
        let n = length-append b x in
        let a = ap (λ (c : Cursor). c.at) (step_joins e) in
        let at : (stepped_by (standing done h b) s).at - length x ≡ length w = omega arith in
        let v : length done + (2 + length b) + length x - (length done + 2) ≡ length b + length x = omega arith in
        rw (at, takes-joins ∙ e, v, store_within area w (length done + 1) (length b + length x) (omega arith))
        (paste_after area (set w (length done + 1) (length b + length x)) x (length w) (length-set w (length done + 1) (length b + length x))
        ∙ ap (pasted area 0) (grown done h b x))

    placed_opens : joins h b s ≡ false → placed (pasted area 0 (done ++ tlv_bytes h b)) (standing done h b) s ≡ pasted area 0 ((done ++ tlv_bytes h b) ++ tlv_bytes s.holder (head_of s.holder ++ sub_bytes s))
    unfolding placed opened pick
    placed_opens e =
        let w : List ℕ = done ++ tlv_bytes h b in
        let x : List ℕ = sub_bytes s in
        let p : List ℕ = opening s.holder (length x) in
        let m = open_end done h b in
        let n = length-append (head_of s.holder) x in
        let k = opening-length s.holder (length x) in
        let a = ap (λ (c : Cursor). c.at) (step_opens e) in
        let at : (stepped_by (standing done h b) s).at - length x ≡ length w + length p = omega arith in
        rw (at, takes-joins ∙ e, paste_after area w p (length done + (2 + length b)) m)
        (paste_after area (w ++ p) x (length w + length p) (length-append w p)
        ∙ ap (pasted area 0) (append_assoc w p x ∙ ap (λ (y : List ℕ). w ++ y) (opened_with s)))

-- ---- the first

module _ (s : Sub) (held : s.holder ≡ 0 → ⊥) where
  not_taken : takes unopened s.holder (length (sub_bytes s)) ≡ false
  unfolding takes both
  not_taken = rw (ne_eqb 0 s.holder (λ e. held (sym e)))

  first_step : stepped_by unopened s ≡ standing [] s.holder (head_of s.holder ++ sub_bytes s)
  unfolding stepped pick
  first_step =
      let n = length-append (head_of s.holder) (sub_bytes s) in
      rw not_taken (same_cursor _ _ _ _ _ _ refl refl (omega arith))

  first_placed : (area : List ℕ) → placed area unopened s ≡ pasted area 0 (tlv_bytes s.holder (head_of s.holder ++ sub_bytes s))
  unfolding placed opened pick
  first_placed area =
      let x : List ℕ = sub_bytes s in
      let p : List ℕ = opening s.holder (length x) in
      let n = length-append (head_of s.holder) x in
      let k = opening-length s.holder (length x) in
      let a = ap (λ (c : Cursor). c.at) first_step in
      let at : (stepped_by unopened s).at - length x ≡ length p = omega arith in
      rw (at, not_taken) (paste_after area p x (length p) refl ∙ ap (pasted area 0) (opened_with s))

-- ---- all of them

pub size_all : (ss : List Sub) (done : List ℕ) (h : ℕ) (b : List ℕ) → (stepped_all (standing done h b) ss).at ≡ length (done ++ grouped h b ss)
unfolding stepped_all grouped
size_all [] done h b = sym (open_end done h b)
size_all (s ∷ ss) done h b = go (joins h b s) refl (size_all ss done h (b ++ sub_bytes s)) (size_all ss (done ++ tlv_bytes h b) s.holder (head_of s.holder ++ sub_bytes s))
  where
    go : (c : Bool) → joins h b s ≡ c
        → (stepped_all (standing done h (b ++ sub_bytes s)) ss).at ≡ length (done ++ grouped h (b ++ sub_bytes s) ss)
        → (stepped_all (standing (done ++ tlv_bytes h b) s.holder (head_of s.holder ++ sub_bytes s)) ss).at ≡ length ((done ++ tlv_bytes h b) ++ grouped s.holder (head_of s.holder ++ sub_bytes s) ss)
        → (stepped_all (stepped_by (standing done h b) s) ss).at ≡ length (done ++ grouped h b (s ∷ ss))
    go true e i j = ap (λ (c : Cursor). (stepped_all c ss).at) (step_joins done h b s e) ∙ i ∙ ap length (sym (loop_joins done h b s ss e))
    go false e i j = ap (λ (c : Cursor). (stepped_all c ss).at) (step_opens done h b s e) ∙ j ∙ ap length (sym (loop_new done h b s ss e))

pub placed-all : (ss : List Sub) (area done : List ℕ) (h : ℕ) (b : List ℕ) → placed_all (pasted area 0 (done ++ tlv_bytes h b)) (standing done h b) ss ≡ pasted area 0 (done ++ grouped h b ss)
unfolding placed_all grouped
placed-all [] area done h b = refl
placed-all (s ∷ ss) area done h b = go (joins h b s) refl (placed-all ss area done h (b ++ sub_bytes s)) (placed-all ss area (done ++ tlv_bytes h b) s.holder (head_of s.holder ++ sub_bytes s))
  where
    go : (c : Bool) → joins h b s ≡ c
        → placed_all (pasted area 0 (done ++ tlv_bytes h (b ++ sub_bytes s))) (standing done h (b ++ sub_bytes s)) ss ≡ pasted area 0 (done ++ grouped h (b ++ sub_bytes s) ss)
        → placed_all (pasted area 0 ((done ++ tlv_bytes h b) ++ tlv_bytes s.holder (head_of s.holder ++ sub_bytes s))) (standing (done ++ tlv_bytes h b) s.holder (head_of s.holder ++ sub_bytes s)) ss ≡ pasted area 0 ((done ++ tlv_bytes h b) ++ grouped s.holder (head_of s.holder ++ sub_bytes s) ss)
        → placed_all (placed (pasted area 0 (done ++ tlv_bytes h b)) (standing done h b) s) (stepped_by (standing done h b) s) ss ≡ pasted area 0 (done ++ grouped h b (s ∷ ss))
    go true e i j = rw (step_joins done h b s e, placed-joins done h b s area e) (i ∙ ap (pasted area 0) (sym (loop_joins done h b s ss e)))
    go false e i j = rw (step_opens done h b s e, placed_opens done h b s area e) (j ∙ ap (pasted area 0) (sym (loop_new done h b s ss e)))

-- from the cursor with no TLV open
module _ (s : Sub) (ss : List Sub) (held : s.holder ≡ 0 → ⊥) where
  pub size_is : (stepped_all unopened (s ∷ ss)).at ≡ length (tlvs_of (s ∷ ss))
  unfolding stepped_all tlvs_of
  size_is = ap (λ (c : Cursor). (stepped_all c ss).at) (first_step s held) ∙ size_all ss [] s.holder (head_of s.holder ++ sub_bytes s)

  pub bytes_are : (area : List ℕ) → placed_all area unopened (s ∷ ss) ≡ pasted area 0 (tlvs_of (s ∷ ss))
  unfolding placed_all tlvs_of
  bytes_are area = rw (first_step s held, first_placed s held area) (placed-all ss area [] s.holder (head_of s.holder ++ sub_bytes s))

-- ---- one list behind the other, and the cursor on the way

pub stepped-append : (xs ys : List Sub) (c : Cursor) → stepped_all c (xs ++ ys) ≡ stepped_all (stepped_all c xs) ys
unfolding stepped_all
stepped-append [] ys c = refl
stepped-append (s ∷ xs) ys c = stepped-append xs ys (stepped_by c s)

pub placed-append : (xs ys : List Sub) (o : List ℕ) (c : Cursor) → placed_all o c (xs ++ ys) ≡ placed_all (placed_all o c xs) (stepped_all c xs) ys
unfolding stepped_all placed_all
placed-append [] ys o c = refl
placed-append (s ∷ xs) ys o c = placed-append xs ys (placed o c s) (stepped_by c s)

pub steps_grow : (ss : List Sub) (c : Cursor) → c.at ≤ (stepped_all c ss).at
unfolding stepped_all
steps_grow [] c = omega arith
steps_grow (s ∷ ss) c =
    let a = step_grows c s.holder (length (sub_bytes s)) in
    let b = steps_grow ss (stepped_by c s) in
    omega arith
