-- A walk that writes what each TLV brings to two sections: there is room for what is left, and what is left decides.
-- Assumes nothing.
use Prim.Native.Nat.{ℕ, ◌+◌, ◌-◌, ◌<◌, ◌≤◌}
use mathlib.Core.Bool.{Bool, true, false}
use mathlib.Core.List.{List, [], ◌∷◌, ◌++◌, flat_map}
use mathlib.Core.Path.{◌≡◌, refl, sym, ap, ◌∙◌}
use native.Mathlib.Nat.{add-zero}
use native.Mathlib.Omega.{arith}
use lib.Dec.{eqb}
use lib.ListN.{length, take, drop, get_or, length-drop, length-append}
use lib.Seq.{drop-drop, get_or-drop}
use borrow.Author.Tests.{eqb-false}
use Rattle.numbers.specs.Tests.{pick, either}
use Rattle.numbers.specs.After.{OnArea, on_area}
use Rattle.hello.specs.Tlvs.{Tlv, tlv, stump, tlv_end, tlvs}
use Rattle.hello.proofs.Cuts.{tlvs_more}
use Rattle.hello_judge.specs.Counting.{walked, past_empty}
use Rattle.hello_judge.proofs.Laws.{walk_done, walk_cut, past_same, neither}
use Rattle.hello_fill.specs.declared.Pens.{Pens}
use Rattle.hello_fill.specs.Filling.{put_two, filling, Room}
use Rattle.hello_fill.proofs.Apart.{two_none, walked_two}

-- what is left of a payload
unfoldable pub rest : (Tlv → List ℕ) → List ℕ → ℕ → List ℕ
rest g l at = flat_map g (tlvs (drop at l))

pub room_first : (f g : Tlv → List ℕ) (l : List ℕ) (p : Pens) (n : ℕ) → Room (flat_map f (tlvs l)) (flat_map g (tlvs l)) p n → Room (rest f l 0) (rest g l 0) p n
unfolding rest
room_first f g l p n h = h

left_more : (g : Tlv → List ℕ) (l : List ℕ) (at : ℕ) → at < length l → (e : ℕ) → e ≡ at + tlv_end (drop at l) → e ≤ length l → rest g l at ≡ g (tlv (get_or l at 0) (take (e - (at + 2)) (drop (at + 2) l))) ++ rest g l e
unfolding rest flat_map
left_more g l at more e end fits =
    let d : length (drop at l) ≡ length l - at = length-drop at l in
    let f : get_or (drop at l) 0 0 ≡ get_or l at 0 = get_or-drop at l 0 0 ∙ rw (add-zero at) in
    let k : e - (at + 2) ≡ get_or (drop at l) 1 0 = omega arith in
    let t : tlvs (drop at l) ≡ tlv (get_or l at 0) (take (e - (at + 2)) (drop (at + 2) l)) ∷ tlvs (drop e l) = tlvs_more (drop at l) (omega arith) ∙ rw (k, f, drop-drop 2 at l, drop-drop (tlv_end (drop at l)) at l, end) in
    rw t

nothing-filled : (f g : Tlv → List ℕ) (s : OnArea Pens) (t : Tlv) → f t ≡ [] → g t ≡ [] → s ≡ filling f g s t
unfolding filling
nothing-filled f g s t a b = rw (a, b) (two_none s)

-- ---- room

module _ (f g : Tlv → List ℕ) (l : List ℕ) (at : ℕ) (p : Pens) (n : ℕ) (here : Room (rest f l at) (rest g l at) p n) (more : at < length l) (e : ℕ) (end : e ≡ at + tlv_end (drop at l)) (fits : e ≤ length l) where
  pub room_here : (m : ℕ) → m ≡ n → Room (f (tlv (get_or l at 0) (take (e - (at + 2)) (drop (at + 2) l)))) (g (tlv (get_or l at 0) (take (e - (at + 2)) (drop (at + 2) l)))) p m
  room_here m same =
      let t : Tlv = tlv (get_or l at 0) (take (e - (at + 2)) (drop (at + 2) l)) in
      let a = ap length (left_more f l at more e end fits) in
      let b = length-append (f t) (rest f l e) in
      let c = ap length (left_more g l at more e end fits) in
      let d = length-append (g t) (rest g l e) in
      (omega (arith, here.0), omega (arith, here.1))

  pub room_next : (r : Pens) (o u : List ℕ) → on_area r u ≡ filling f g (on_area p o) (tlv (get_or l at 0) (take (e - (at + 2)) (drop (at + 2) l))) → Room (rest f l e) (rest g l e) r n
  unfolding filling put_two
  room_next r o u step =
      let t : Tlv = tlv (get_or l at 0) (take (e - (at + 2)) (drop (at + 2) l)) in
      let a = ap length (left_more f l at more e end fits) in
      let b = length-append (f t) (rest f l e) in
      let c = ap length (left_more g l at more e end fits) in
      let d = length-append (g t) (rest g l e) in
      let i : r.first ≡ p.first + length (f t) = ap (λ (s : OnArea Pens). s.answer.first) step in
      let j : r.second ≡ p.second + length (g t) = ap (λ (s : OnArea Pens). s.answer.second) step in
      (omega (arith, here.0), omega (arith, here.1))

-- ---- the walk

module _ (f g : Tlv → List ℕ) (l o₀ : List ℕ) (p₀ : Pens) (room : Room (flat_map f (tlvs l)) (flat_map g (tlvs l)) p₀ (length o₀))
    (at : ℕ) (p : Pens) (o : List ℕ) (inv : walked (filling f g) (on_area p₀ o₀) (tlvs l) ≡ walked (filling f g) (on_area p o) (tlvs (drop at l))) where
  pub fill_done : length l ≤ at → on_area p o ≡ put_two (flat_map f (tlvs l)) (flat_map g (tlvs l)) (on_area p₀ o₀)
  fill_done h = walk_done (filling f g) l at (on_area p o) _ inv h ∙ walked_two f g (tlvs l) p₀ o₀ room

  pub fill_cut : at < length l → (e : ℕ) → e ≡ at + tlv_end (drop at l) → length l < e → f stump ≡ [] → g stump ≡ [] → on_area p o ≡ put_two (flat_map f (tlvs l)) (flat_map g (tlvs l)) (on_area p₀ o₀)
  fill_cut more e end short a b = walk_cut (filling f g) l at (on_area p o) _ inv more e end short (on_area p o) (nothing-filled f g (on_area p o) stump a b) ∙ walked_two f g (tlvs l) p₀ o₀ room

-- ---- past empty TLVs

abbrev pub Free : (Tlv → List ℕ) → Type 0
Free f = (k : ℕ) → (k ≡ 242 → ⊥) → (k ≡ 251 → ⊥) → f (tlv k []) ≡ []

module _ (f : Tlv → List ℕ) (free : Free f) where
  flat_one : (k : ℕ) (ts us : List Tlv) (b : Bool) → either (eqb k 242) (eqb k 251) ≡ b → flat_map f ts ≡ flat_map f us → flat_map f (tlv k [] ∷ ts) ≡ flat_map f (pick b (tlv k [] ∷ ts) us)
  unfolding flat_map pick
  flat_one k ts us true e h = refl
  flat_one k ts us false e h =
      let n = neither (eqb k 242) (eqb k 251) e in
      rw (free k (eqb-false k 242 n.0) (eqb-false k 251 n.1)) h

  flat_past : (ts : List Tlv) → flat_map f ts ≡ flat_map f (past_empty ts)
  unfolding past_empty
  flat_past [] = refl
  flat_past (tlv k [] ∷ ts) = flat_one k ts (past_empty ts) (either (eqb k 242) (eqb k 251)) refl (flat_past ts)
  flat_past (tlv k (b ∷ v) ∷ ts) = refl
  flat_past (stump ∷ ts) = refl

  rest_past : (l : List ℕ) (a b : ℕ) → tlvs (drop b l) ≡ past_empty (tlvs (drop a l)) → rest f l b ≡ rest f l a
  unfolding rest
  rest_past l a b e = ap (flat_map f) e ∙ sym (flat_past (tlvs (drop a l)))

module _ (f g : Tlv → List ℕ) (free : Free f) (also : Free g) (l : List ℕ) (a b : ℕ) (past : tlvs (drop b l) ≡ past_empty (tlvs (drop a l))) where
  pub room_past : (p : Pens) (n : ℕ) → Room (rest f l a) (rest g l a) p n → Room (rest f l b) (rest g l b) p n
  room_past p n h = rw (rest_past f free l a b past, rest_past g also l a b past) h

  step_free : (s : OnArea Pens) (k : ℕ) → (k ≡ 242 → ⊥) → (k ≡ 251 → ⊥) → filling f g s (tlv k []) ≡ s
  step_free s k d e = sym (nothing-filled f g s (tlv k []) (free k d e) (also k d e))

  pub walk_past : (x : OnArea Pens) (s : OnArea Pens) → x ≡ walked (filling f g) s (tlvs (drop a l)) → x ≡ walked (filling f g) s (tlvs (drop b l))
  walk_past x s inv = inv ∙ past_same (filling f g) step_free s (tlvs (drop a l)) ∙ ap (walked (filling f g) s) (sym past)

pub walk_first : (f g : Tlv → List ℕ) (free : Free f) (also : Free g) (l : List ℕ) (b : ℕ) → tlvs (drop b l) ≡ past_empty (tlvs (drop 0 l)) → (s : OnArea Pens) → walked (filling f g) s (tlvs l) ≡ walked (filling f g) s (tlvs (drop b l))
walk_first f g free also l b past s = walk_past f g free also l 0 b past (walked (filling f g) s (tlvs l)) s refl
