-- Laws of hits: where a list is split, which keys a range hits, and which a bit map.
-- Assumes nothing.
use Prim.{tt}
use Prim.Native.Nat.{ℕ, suc, ◌+◌, ◌-◌, ◌*◌, ◌/◌, ◌≤◌, ◌<◌}
use mathlib.Core.Bool.{Bool, true, false}
use mathlib.Core.List.{List}
use mathlib.Core.Path.{◌≡◌, refl, sym, ◌∙◌}
use native.Mathlib.Decide.{dec_lt, ℕ_discrete}
use native.Mathlib.Numerals.{add-one}
use native.Mathlib.Omega.{arith}
use lib.Dec.{leb}
use borrow.Author.Tests.{le-leb, lt-leb, eq-eqb, ne_eqb}
use lib.ListN.{length, take, drop, get_or, length-drop, drop_of_length-le}
use lib.Seq.{length-take-le, get_or-take, get_or-drop}
use Rattle.numbers.specs.Tests.{both, either}
use Rattle.numbers.specs.Numberings.{bit_at, in_map}
use Rattle.numbers.specs.declared.Numbering.{Numbering}
use Rattle.numbers.proofs.Truth.{both_left, both_right, both_pass, not_true_false, either_none, either-all, false_true}
use Rattle.flush_bits.specs.Ranged.{Ranged, Widened}
use Rattle.flush_sort.specs.Sorting.{All, Sorted}
use Rattle.flush_sort.proofs.Laws.{all_at}
use Rattle.flush_buckets.specs.Buckets.{bucket_of, alone_of, Nears, key_slots}
use Rattle.flush_intervals.specs.Hits.{Splits, Searched, Hits, HitsTo}
use Rattle.flush_intervals.proofs.Ranges.{all_map, sorted_below, sorted_above}

-- ---- where a list is split

module _ (l : List ℕ) (y r : ℕ) (s : Splits l y r) where
  pub split_below : (i : ℕ) → i < r → get_or l i 0 < y
  split_below i h =
      let e : length (take r l) ≡ r = length-take-le r l s.within in
      rw (get_or-take r l i 0 h) at (all_at (λ v. v < y) (take r l) i s.below (omega arith))

  pub split_above : (i : ℕ) → r ≤ i → i < length l → y ≤ get_or l i 0
  split_above i h k =
      let d : length (drop r l) ≡ length l - r = length-drop r l in
      let z : r + (i - r) ≡ i = omega arith in
      rw (get_or-drop r l (i - r) 0, z) at (all_at (λ v. y ≤ v) (drop r l) (i - r) s.above (omega arith))

  pub split_order : (z t : ℕ) → Splits l z t → y ≤ z → r ≤ t
  split_order z t u h = go (dec_lt t r)
    where
      go : Dec (t < r) → r ≤ t
      go (no d) = omega arith
      go (yes d) = absurd (above_all (λ i k. split_below i k) (λ i k m. at-least i k m))
        where
          at-least : (i : ℕ) → t ≤ i → i < length l → z ≤ get_or l i 0
          at-least i k m =
              let d : length (drop t l) ≡ length l - t = length-drop t l in
              let e : t + (i - t) ≡ i = omega arith in
              rw (get_or-drop t l (i - t) 0, e) at (all_at (λ v. z ≤ v) (drop t l) (i - t) u.above (omega arith))

          above_all : ((i : ℕ) → i < r → get_or l i 0 < y) → ((i : ℕ) → t ≤ i → i < length l → z ≤ get_or l i 0) → ⊥
          above_all a b =
              let w = s.within in
              let p = a t d in
              let q = b t (omega arith) (omega arith) in
              omega arith

-- ---- the search from a place on

module _ (l : List ℕ) (y lo : ℕ) (front : All (λ v. v < y) (take lo l)) where
  pub from_end : lo ≡ length l → Splits l y lo
  unfolding All
  from_end h = record { within = omega arith; below = front; above = rw (drop_of_length-le l {i = lo} (omega arith)) tt }

  pub from_here : Sorted l → lo ≤ length l → (lo ≡ length l → ⊥) → y ≤ get_or l lo 0 → Splits l y lo
  from_here s h d le = record { within = h; below = front; above = sorted_above l lo y s (omega arith) le }

module _ (l : List ℕ) (y lo : ℕ) (s : Sorted l) (h : lo ≤ length l) (d : lo ≡ length l → ⊥) (lt : get_or l lo 0 < y) where
  next_front : All (λ v. v < y) (take (lo + 1) l)
  next_front = rw (add-one lo) (sorted_below l lo y s (omega arith) lt)

  pub next_end : lo + 1 ≡ length l → Splits l y (lo + 1)
  next_end e = from_end l y (lo + 1) next_front e

  pub next_here : (lo + 1 ≡ length l → ⊥) → y ≤ get_or l (lo + 1) 0 → Splits l y (lo + 1)
  next_here e le = from_here l y (lo + 1) next_front s (omega arith) e le

-- the search from a place that was noted
pub none_front : (l : List ℕ) (y : ℕ) → All (λ v. v < y) (take 0 l)
unfolding All
none_front l y = tt

pub noted_front : (l : List ℕ) (y i : ℕ) → Sorted l → (i ≡ 0 → ⊥) → i ≤ length l → get_or l (i - 1) 0 < y → All (λ v. v < y) (take i l)
noted_front l y i s some h lt =
    let last : suc (i - 1) ≡ i = omega arith in
    rw last at (sorted_below l (i - 1) y s (omega arith) lt)

-- ---- a range

module _ (s e x : ℕ) where
  below_range : x < s → both (leb s x) (leb (suc x) e) ≡ false
  below_range h = both_left (leb s x) (leb (suc x) e) (lt-leb s x h)

  above_range : e ≤ x → both (leb s x) (leb (suc x) e) ≡ false
  above_range h = both_right (leb s x) (leb (suc x) e) (lt-leb (suc x) e (omega arith))

  inside-range : s ≤ x → x < e → both (leb s x) (leb (suc x) e) ≡ true
  inside-range h k = both_pass (leb s x) (leb (suc x) e) (le-leb s x h) (le-leb (suc x) e (omega arith))

-- no key passes
pub hits_none : (q : ℕ → Bool) (keys h : List ℕ) → ((i : ℕ) → i < length keys → q (get_or keys i 0 / key_slots) ≡ false) → Hits q keys h h
hits_none q keys h none = record { long = refl; each = λ i k. sym (rw (none i k) (either_none (bit_at i h))) }

pub range_empty : (s e : ℕ) (keys h : List ℕ) → e ≤ s → Hits (λ x. both (leb s x) (leb (suc x) e)) keys h h
range_empty s e keys h le = hits_none _ keys h (λ i k. go i (dec_lt (get_or keys i 0 / key_slots) s))
  where
    go : (i : ℕ) → Dec (get_or keys i 0 / key_slots < s) → both (leb s (get_or keys i 0 / key_slots)) (leb (suc (get_or keys i 0 / key_slots)) e) ≡ false
    go i (yes d) = below_range s e _ d
    go i (no d) = above_range s e _ (omega arith)

-- a set between s and e that no key is near
pub far_hits : (q : ℕ → Bool) (s e : ℕ) → ((x : ℕ) → q x ≡ true → s ≤ x) → ((x : ℕ) → q x ≡ true → x < e) → (near keys h : List ℕ) → Nears keys near
    → (b : Bool) → (b ≡ false → (x : ℕ) → s ≤ x → x < e → bit_at (bucket_of x) near ≡ false) → b ≡ false → Hits q keys h h
far_hits q s e low high near keys h n b none off = hits_none q keys h (λ i k. not_true_false _ (λ t.
    let x : ℕ = get_or keys i 0 / key_slots in
    false_true (sym (none off x (low x t) (high x t)) ∙ n.each i k)))

range_low : (s e x : ℕ) → both (leb s x) (leb (suc x) e) ≡ true → s ≤ x
range_low s e x h = go (dec_lt x s)
  where
    go : Dec (x < s) → s ≤ x
    go (yes d) = false_true (sym (below_range s e x d) ∙ h)
    go (no d) = omega arith

range_high : (s e x : ℕ) → both (leb s x) (leb (suc x) e) ≡ true → x < e
range_high s e x h = go (dec_lt x e)
  where
    go : Dec (x < e) → x < e
    go (yes d) = d
    go (no d) = false_true (sym (above_range s e x (omega arith)) ∙ h)

pub range_far : (s e : ℕ) (near keys h : List ℕ) → Searched near keys h → (b : Bool) → (b ≡ false → (x : ℕ) → s ≤ x → x < e → bit_at (bucket_of x) near ≡ false) → b ≡ false
    → Hits (λ x. both (leb s x) (leb (suc x) e)) keys h h
range_far s e near keys h g b none off = far_hits _ s e (range_low s e) (range_high s e) near keys h g.nears b none off

-- a number whose own bit no key has set
pub single_far : (x : ℕ) (near keys h : List ℕ) → Searched near keys h → (b : Bool) → b ≡ bit_at (alone_of x) near → b ≡ false → Hits (λ y. both (leb x y) (leb (suc y) (x + 1))) keys h h
single_far x near keys h g b is off = hits_none _ keys h (λ i k. not_true_false _ (λ t.
    let low = range_low x (x + 1) (get_or keys i 0 / key_slots) t in
    let high = range_high x (x + 1) (get_or keys i 0 / key_slots) t in
    let same : get_or keys i 0 / key_slots ≡ x = omega arith in
    false_true (sym (sym is ∙ off) ∙ (rw same at (g.nears.alone i k)))))

module _ (s e : ℕ) (keys : List ℕ) (lo : ℕ) (a : Splits keys (s * key_slots) lo) where
  pub front_below : s < e → All (λ v. v < e * key_slots) (take lo keys)
  front_below h = all_map (λ v. v < s * key_slots) (λ v. v < e * key_slots) (take lo keys) (λ v k. omega arith) a.below

  module _ (hi : ℕ) (b : Splits keys (e * key_slots) hi) where
    pub range_order : s < e → lo ≤ hi
    range_order k = split_order keys (s * key_slots) lo a (e * key_slots) hi b (omega arith)

    pub range_hits : (h u : List ℕ) → Ranged h u lo hi → Hits (λ x. both (leb s x) (leb (suc x) e)) keys h u
    range_hits h u r = record { long = r.long; each = λ i k. go i k (dec_lt i lo) (dec_lt i hi) }
      where
        go : (i : ℕ) → i < length keys → Dec (i < lo) → Dec (i < hi) → bit_at i u ≡ either (bit_at i h) (both (leb s (get_or keys i 0 / key_slots)) (leb (suc (get_or keys i 0 / key_slots)) e))
        go i k (yes p) q =
            let v = split_below keys (s * key_slots) lo a i p in
            r.below i p ∙ sym (rw (below_range s e (get_or keys i 0 / key_slots) (omega arith)) (either_none (bit_at i h)))
        go i k (no p) (yes q) =
            let v = split_above keys (s * key_slots) lo a i (omega arith) k in
            let z = split_below keys (e * key_slots) hi b i q in
            r.inside i (omega arith) q ∙ sym (rw (inside-range s e (get_or keys i 0 / key_slots) (omega arith) (omega arith)) (either-all (bit_at i h)))
        go i k (no p) (no q) =
            let z = split_above keys (e * key_slots) hi b i (omega arith) k in
            r.above i (omega arith) ∙ sym (rw (above_range s e (get_or keys i 0 / key_slots) (omega arith)) (either_none (bit_at i h)))

-- ---- a bit map

pub record Mapping (q : ℕ → Bool) (keys h₀ : List ℕ) (i : ℕ) (h : List ℕ) : Type 0 where
  pub place : i ≤ length keys
  pub so_far : HitsTo q keys h₀ i h

module _ (q : ℕ → Bool) (keys h₀ : List ℕ) (s e : ℕ) (low : (x : ℕ) → q x ≡ true → s ≤ x) (high : (x : ℕ) → q x ≡ true → x < e) where
  pub map_start : (lo : ℕ) → Splits keys (s * key_slots) lo → Mapping q keys h₀ lo h₀
  map_start lo a = record {
    place = a.within;
    so_far = record {
      long = refl;
      done = λ k p.
          let v = split_below keys (s * key_slots) lo a k p in
          sym (rw (not_true_false (q (get_or keys k 0 / key_slots)) (λ t. let z = low _ t in omega arith)) (either_none (bit_at k h₀)));
      rest = λ k p. refl;
    };
  }

  module _ (sorted : Sorted keys) (i : ℕ) (h : List ℕ) (m : Mapping q keys h₀ i h) where
    pub map_done : length keys ≤ i → Hits q keys h₀ h
    map_done far = record { long = m.so_far.long; each = λ k p. m.so_far.done k (omega arith) }

    -- the numbers from here on lie after the map
    pub map_past : i < length keys → e ≤ get_or keys i 0 / key_slots → Hits q keys h₀ h
    map_past more far = record { long = m.so_far.long; each = λ k p. go k p (dec_lt k i) }
      where
        after : (k : ℕ) → i ≤ k → k < length keys → get_or keys i 0 ≤ get_or keys k 0
        after k p r =
            let d : length (drop i keys) ≡ length keys - i = length-drop i keys in
            let z : i + (k - i) ≡ k = omega arith in
            rw (get_or-drop i keys (k - i) 0, z) at (all_at (λ v. get_or keys i 0 ≤ v) (drop i keys) (k - i) (sorted_above keys i (get_or keys i 0) sorted more (omega arith)) (omega arith))

        go : (k : ℕ) → k < length keys → Dec (k < i) → bit_at k h ≡ either (bit_at k h₀) (q (get_or keys k 0 / key_slots))
        go k p (yes d) = m.so_far.done k d
        go k p (no d) =
            let a = after k (omega arith) p in
            m.so_far.rest k (omega arith) ∙ sym (rw (not_true_false (q (get_or keys k 0 / key_slots)) (λ t. let z = high _ t in omega arith)) (either_none (bit_at k h₀)))

-- key i has its bit where its number is in the map
pub map_next : (q : ℕ → Bool) (keys h₀ : List ℕ) (i : ℕ) (h : List ℕ) → Mapping q keys h₀ i h → i < length keys → (b : Bool) → b ≡ q (get_or keys i 0 / key_slots) → (u : List ℕ) → Widened h u i b → Mapping q keys h₀ (i + 1) u
unfolding both
map_next q keys h₀ i h m more b is u g = record {
  place = omega arith;
  so_far = record {
    long = g.long ∙ m.so_far.long;
    done = λ k p. go k p (ℕ_discrete k i);
    rest = λ k p. other k (omega arith) ∙ m.so_far.rest k (omega arith);
  };
}
  where
    other : (k : ℕ) → (k ≡ i → ⊥) → bit_at k u ≡ bit_at k h
    other k d = g.each k ∙ rw (ne_eqb k i d) (either_none (bit_at k h))

    go : (k : ℕ) → k < i + 1 → Dec (k ≡ i) → bit_at k u ≡ either (bit_at k h₀) (q (get_or keys k 0 / key_slots))
    go k p (yes e) = rw e (g.each i ∙ rw (eq-eqb i i refl, m.so_far.rest i (omega arith), is))
    go k p (no d) = other k d ∙ m.so_far.done k (omega arith)

-- a value too short for a start has no map
pub map_short : (w : Numbering) (v keys h : List ℕ) → length v < w.size → Hits (λ x. in_map w x v) keys h h
unfolding in_map both
map_short w v keys h short = hits_none _ keys h (λ i k. rw (lt-leb w.size (length v) short))

-- ---- the areas stay as they are

pub still_searched : (near keys h u : List ℕ) → Searched near keys h → length u ≡ length h → Searched near keys u
still_searched near keys h u g e = record { sorted = g.sorted; few = g.few; nears = g.nears; room = e ∙ g.room }
