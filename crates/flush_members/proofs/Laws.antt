-- Laws of reading at a place: a part says the same as the bytes from its place on, and what is left of a list decides.
-- Assumes nothing.
use Prim.Native.Nat.{ℕ, suc, ◌+◌, ◌-◌, ◌*◌, ◌/◌, ◌%◌, ◌<◌, ◌≤◌}
use mathlib.Core.Bool.{Bool, true, false, ◌&&◌}
use mathlib.Core.List.{List, [], ◌∷◌}
use mathlib.Core.Path.{◌≡◌, refl, sym, ap, ◌∙◌}
use native.Mathlib.Nat.{mod-eq_of_lt, mul-le-mul_right, suc-mul, zero-mul}
use native.Mathlib.Omega.{arith}
use lib.Dec.{leb, eqb}
use lib.ListN.{length, take, drop, get_or, length-drop}
use lib.Seq.{take-take, drop-drop, get_or-drop}
use borrow.Author.Tests.{le-leb, lt-leb, leb-true, leb-false}
use Rattle.numbers.specs.Tests.{pick, both, either, any_of, between}
use Rattle.numbers.specs.Bytes.{num, parts}
use Rattle.numbers.specs.Numberings.{macs, number_of, at_least, at_most, start_of, end_of, in_block, filled, in_blocks, bit_of, bit_at, in_map}
use Rattle.numbers.specs.declared.Numbering.{Numbering}
use Rattle.numbers.proofs.Truth.{between_below}
use Rattle.numbers.proofs.Lists.{part_prefix}
use Rattle.numbers.proofs.Widths.{blocks_hold, bit_past}
use Rattle.numbers.proofs.Truth.{and_both}
use Rattle.numbers.proofs.Parts.{parts_end, parts_more}

-- ---- a block at a place

at_least_test : (m n x : ℕ) (b : Bool) → leb m n ≡ b → m ≤ x → leb (pick b n m) x ≡ leb n x
unfolding pick
at_least_test m n x true e h = refl
at_least_test m n x false e h = let k = leb-false m n e in le-leb m x h ∙ sym (le-leb n x (omega arith))

at_least_from : (m n : ℕ) (b : Bool) → leb m n ≡ b → m ≤ pick b n m
unfolding pick
at_least_from m n true e = leb-true m n e
at_least_from m n false e = omega arith

at_most_test : (m n x : ℕ) (b : Bool) → leb n m ≡ b → x ≤ m → leb x (pick b n m) ≡ leb x n
unfolding pick
at_most_test m n x true e h = refl
at_most_test m n x false e h = let k = leb-false n m e in le-leb x m h ∙ sym (le-leb x n (omega arith))

module _ (w : Numbering) (v : List ℕ) (at s e : ℕ) (start : s ≡ number_of w (drop at v)) (end : e ≡ number_of w (drop (at + w.size) v)) where
  end_number : number_of w (drop w.size (drop at v)) ≡ e
  end_number = ap (number_of w) (drop-drop w.size at v) ∙ sym end

  -- of a number that there is the ends tell as they are written
  pub block_tells : (x : ℕ) → w.low ≤ x → x ≤ w.high → leb s x && leb x e ≡ in_block w x (drop at v)
  unfolding in_block between start_of end_of at_least at_most
  block_tells x a b =
      and_both (leb s x) (leb x e)
      ∙ sym
      (rw (
        at_least_test w.low (number_of w (drop at v)) x _ refl a,
        at_most_test w.high (number_of w (drop w.size (drop at v))) x _ refl b,
        end_number,
        ← start,
      ))

  filled_tells : w.low ≤ s → e ≤ w.high → leb s e ≡ filled w (drop at v)
  unfolding filled
  filled_tells a b =
      let n = end_number in
      rw ((blocks_hold.every w (drop at v)).start_same (omega arith), (blocks_hold.every w (drop at v)).end_same (omega arith), n, ← start)

-- a MAC is any number of six bytes
pub macs-filled : (v : List ℕ) (at s e : ℕ) → s ≡ number_of macs (drop at v) → e ≡ number_of macs (drop (at + 6) v) → leb s e ≡ filled macs (drop at v)
unfolding number_of
macs-filled v at s e start end = filled_tells macs v at s e start end (omega arith) (omega arith)

-- no block has a number that there is not
no_part : (p : List ℕ → Bool) → ((b : List ℕ) → p b ≡ false) → (bs : List (List ℕ)) → any_of p bs ≡ false
unfolding any_of either
no_part p none [] = refl
no_part p none (b ∷ bs) = rw (none b) (no_part p none bs)

module _ (w : Numbering) (x : ℕ) (v : List ℕ) where
  low_none : x < w.low → (b : List ℕ) → in_block w x b ≡ false
  unfolding in_block start_of at_least
  low_none h b =
      let from = at_least_from w.low (number_of w b) _ refl in
      between_below _ (end_of w b) x (omega arith)

  pub blocks_below : x < w.low → false ≡ in_blocks w x v
  unfolding in_blocks
  blocks_below h = sym (no_part (in_block w x) (low_none h) _)

  pub blocks_above : w.high < x → false ≡ in_blocks w x v
  unfolding in_blocks
  blocks_above h = sym (no_part (in_block w x) (λ b. (blocks_hold.every w b).no_wrap_high x h) _)

-- ---- a part of k bytes says what the bytes from its place on say

abbrev pub Near : ℕ → (List ℕ → Bool) → Type 0
Near k p = (b : List ℕ) → k ≤ length b → p (take k b) ≡ p b

module _ (w : Numbering) where
  number_near : (k : ℕ) (b : List ℕ) → w.size ≤ k → number_of w (take k b) ≡ number_of w b
  unfolding number_of
  number_near k b h = ap (λ (l : List ℕ). num l % w.modulus) (take-take w.size k b h)

  start_near : (b : List ℕ) → start_of w (take (2 * w.size) b) ≡ start_of w b
  unfolding start_of
  start_near b = rw (number_near (2 * w.size) b (omega arith))

  end_near : (b : List ℕ) → 2 * w.size ≤ length b → end_of w (take (2 * w.size) b) ≡ end_of w b
  unfolding end_of number_of
  end_near b h = rw (← part_prefix b w.size w.size (2 * w.size) (omega arith) h)

  pub block_near : (x : ℕ) → Near (2 * w.size) (in_block w x)
  unfolding in_block
  block_near x b h = rw (start_near b, end_near b h)

  pub filled_near : Near (2 * w.size) (filled w)
  unfolding filled
  filled_near b h = rw (start_near b, end_near b h)

  pub item_near : (x : ℕ) → Near w.size (λ b. eqb (number_of w b) x)
  item_near x b h = ap (λ (n : ℕ). eqb n x) (number_near w.size b (omega arith))

-- ---- a loop over parts of k, at a place: what is left decides

module _ (p : List ℕ → Bool) (k : ℕ) (near : Near k p) (some : 0 < k) (v : List ℕ) (at : ℕ) (x : Bool) (inv : x ≡ any_of p (parts k (drop at v))) where
  pub parts_done : length v - at < k → false ≡ x
  unfolding any_of
  parts_done h =
      let d : length (drop at v) ≡ length v - at = length-drop at v in
      sym (inv ∙ ap (any_of p) (parts_end k some (drop at v) (omega arith)))

  module _ (room : k ≤ length v - at) (h : Bool) (here : h ≡ p (drop at v)) where
    part_here : x ≡ either h (any_of p (parts k (drop (at + k) v)))
    unfolding any_of
    part_here =
        let d : length (drop at v) ≡ length v - at = length-drop at v in
        inv
        ∙ ap (any_of p) (parts_more k some (drop at v) (omega arith))
        ∙ rw (near (drop at v) (omega arith), ← here, drop-drop k at v)

    pub part_hit : h ≡ true → true ≡ x
    unfolding either
    part_hit t = sym (rw t at part_here)

    pub part_next : h ≡ false → x ≡ any_of p (parts k (drop (at + k) v))
    unfolding either
    part_next t = rw t at part_here

-- ---- a loop over the numbers of the parts

part_room : (k n i : ℕ) → i < n / k → k ≤ n - i * k
part_room k n i h = let m : suc i * k ≤ n / k * k = mul-le-mul_right k h in let t = suc-mul i k in omega arith

-- whether some part of the whole passes: whether one from part i on does
pub record Seeking (p : List ℕ → Bool) (k : ℕ) (whole : Bool) (v : List ℕ) (i : ℕ) : Type 0 where
  pub some : 0 < k
  pub left : whole ≡ any_of p (parts k (drop (i * k) v))

pub seek_start : (p : List ℕ → Bool) (k : ℕ) (v : List ℕ) → 0 < k → Seeking p k (any_of p (parts k v)) v 0
seek_start p k v some = record { some = some; left = rw (zero-mul k) }

module _ (p : List ℕ → Bool) (k : ℕ) (near : Near k p) (whole : Bool) (v : List ℕ) (i : ℕ) (g : Seeking p k whole v i) where
  pub seek_done : length v / k ≤ i → false ≡ whole
  seek_done h =
      let some = g.some in
      let m : length v / k * k ≤ i * k = mul-le-mul_right k h in
      parts_done p k near some v (i * k) whole g.left (omega arith)

  module _ (more : i < length v / k) (h : Bool) (here : h ≡ p (drop (i * k) v)) where
    pub seek_hit : h ≡ true → true ≡ whole
    seek_hit t = part_hit p k near g.some v (i * k) whole g.left (part_room k (length v) i more) h here t

    pub seek_next : h ≡ false → Seeking p k whole v (i + 1)
    seek_next t =
        let e : i * k + k ≡ (i + 1) * k = omega arith in
        record { some = g.some; left = rw e at (part_next p k near g.some v (i * k) whole g.left (part_room k (length v) i more) h here t) }

-- ---- a bit map

module _ (v : List ℕ) (at i : ℕ) where
  pub bit_none : length v - at ≤ i / 8 → false ≡ bit_at i (drop at v)
  bit_none h =
      let d : length (drop at v) ≡ length v - at = length-drop at v in
      sym (bit_past i (drop at v) (omega arith))

  pub bit_there : (b : Bool) → b ≡ bit_of (get_or v (at + i / 8) 0) (i % 8) → b ≡ bit_at i (drop at v)
  unfolding bit_at
  bit_there b e = e ∙ ap (λ (y : ℕ). bit_of y (i % 8)) (sym (get_or-drop at v (i / 8) 0))

module _ (w : Numbering) (x : ℕ) (v : List ℕ) where
  pub map_short : length v < w.size → false ≡ in_map w x v
  unfolding in_map both
  map_short h = rw (lt-leb w.size (length v) h)

  module _ (long : w.size ≤ length v) where
    pub map_outside : leb w.low x && leb x w.high ≡ false → false ≡ in_map w x v
    unfolding in_map between both
    map_outside h = rw (le-leb w.size (length v) long, ← and_both (leb w.low x) (leb x w.high), h)

    module _ (inside : leb w.low x && leb x w.high ≡ true) (s : ℕ) (start : s ≡ number_of w (drop 0 v)) where
      pub map_before : x < s → false ≡ in_map w x v
      unfolding in_map between both
      map_before h = rw (le-leb w.size (length v) long, ← and_both (leb w.low x) (leb x w.high), inside, ← start, lt-leb s x h)

      pub map_tells : s ≤ x → (b : Bool) → b ≡ bit_at (x - s) (drop w.size v) → b ≡ in_map w x v
      unfolding in_map between both
      map_tells h b e = rw (le-leb w.size (length v) long, ← and_both (leb w.low x) (leb x w.high), inside, ← start, le-leb s x h) e

-- ---- a number without reserved bits

pub number_small : (w : Numbering) (b : List ℕ) (n : ℕ) → n ≡ num (take w.size b) → n < w.modulus → n ≡ number_of w b
unfolding number_of
number_small w b n e h = rw (← e) (sym (mod-eq_of_lt h))
