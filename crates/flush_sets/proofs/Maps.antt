-- Laws of adding a bit map to a set of bits: a byte of it falls on two bytes of the set.
-- Assumes nothing.
use Prim.Native.Nat.{ℕ, suc, ◌+◌, ◌-◌, ◌*◌, ◌/◌, ◌%◌, ◌^◌, ◌<◌, ◌≤◌}
use mathlib.Core.Bool.{Bool, true, false}
use mathlib.Core.List.{List}
use mathlib.Core.Path.{◌≡◌, refl, sym, ap, ◌∙◌}
use native.Mathlib.Decide.{ℕ_discrete}
use native.Mathlib.Nat.{add-zero, mod-eq_of_lt}
use native.Mathlib.Omega.{arith}
use lib.Bits.{bit_or}
use lib.Dec.{leb, eqb}
use lib.ListN.{length, take, drop, get_or, set, length-drop, length-set}
use lib.Seq.{take_all, get_or-drop}
use borrow.Author.Tests.{le-leb, lt-leb, leb-true, leb-false, eq-eqb, ne_eqb}
use Rattle.numbers.specs.Tests.{both, either, between}
use Rattle.numbers.specs.Bytes.{num}
use Rattle.numbers.specs.Numberings.{vlans, number_of, bit_of, bit_at, in_map}
use Rattle.numbers.proofs.Truth.{both_left, both_right, between_above, either_none, either_assoc}
use Rattle.numbers.proofs.Widths.{bit_past}
use Rattle.flush_bits.proofs.Laws.{every, every_at, alike, alike_same, byte_other, added_same}
use Rattle.flush_sets.specs.Gains.{Gains, in_vlan_map, Edged, in_byte, vlan_in_byte, in_shifted, vlan_in_shifted}
use Rattle.flush_sets.proofs.Adding.{gains_none}

-- ---- the bits that are no VLAN's

abbrev low_rule : ℕ → ℕ → Bool
low_rule m k = alike (bit_of (m % 128) k) (both (between 1 0xFFE (8 * 0 + k)) (bit_of m k))

abbrev high_rule : ℕ → ℕ → Bool
high_rule m k = alike (bit_of (m / 2 * 2) k) (both (between 1 0xFFE (8 * 511 + k)) (bit_of m k))

lows : every 256 (λ m. every 8 (low_rule m)) ≡ true
unfolding bit_of both between
lows = refl

highs : every 256 (λ m. every 8 (high_rule m)) ≡ true
unfolding bit_of both between
highs = refl

module _ (w m : ℕ) (few : m < 256) where
  pub edge_low : w ≡ 0 → Edged w m (m % 128)
  edge_low e = record { bits = λ k h. rw e (alike_same (bit_of (m % 128) k) _ (every_at 8 (low_rule m) (every_at 256 (λ m. every 8 (low_rule m)) lows m few) k h)) }

  pub edge_high : w ≡ 511 → Edged w m (m / 2 * 2)
  edge_high e = record { bits = λ k h. rw e (alike_same (bit_of (m / 2 * 2) k) _ (every_at 8 (high_rule m) (every_at 256 (λ m. every 8 (high_rule m)) highs m few) k h)) }

  pub edge_none : (w ≡ 0 → ⊥) → (w ≡ 511 → ⊥) → w ≤ 511 → Edged w m m
  unfolding both between
  edge_none a b c = record { bits = λ k h. rw (le-leb 1 (8 * w + k) (omega arith), le-leb (8 * w + k) 0xFFE (omega arith)) }

-- ---- a byte of the set

module _ (w m : ℕ) (s : List ℕ) where
  pub vlans_added : length s ≡ 512 → w ≤ 511 → (r : ℕ) → Edged w m r → (t : List ℕ) → t ≡ set s w (bit_or (get_or s w 0) r) → Gains s t (vlan_in_byte w m)
  unfolding vlan_in_byte in_byte both
  vlans_added long few r edged t e = record { long = ap length e ∙ length-set s w _; each = λ x. rw e (go x (ℕ_discrete (x / 8) w)) }
    where
      go : (x : ℕ) → Dec (x / 8 ≡ w) → bit_at x (set s w (bit_or (get_or s w 0) r)) ≡ either (bit_at x s) (both (between 1 0xFFE x) (both (eqb (x / 8) w) (bit_of m (x % 8))))
      go x (yes q) =
          let same : 8 * w + x % 8 ≡ x = omega arith in
          added_same s w r (omega arith) x q
          ∙ ap (either (bit_at x s)) (rw same at (edged.bits (x % 8) (omega arith)))
          ∙ rw (eq-eqb (x / 8) w q)
      go x (no d) =
          byte_other s w _ x d
          ∙ sym (ap (either (bit_at x s)) (both_right (between 1 0xFFE x) _ (both_left _ _ (ne_eqb (x / 8) w d))) ∙ either_none (bit_at x s))

  pub vlans_past : 511 < w → Gains s s (vlan_in_byte w m)
  unfolding vlan_in_byte in_byte
  vlans_past h = gains_none s _ (λ x. go x (ℕ_discrete (x / 8) w))
    where
      go : (x : ℕ) → Dec (x / 8 ≡ w) → both (between 1 0xFFE x) (both (eqb (x / 8) w) (bit_of m (x % 8))) ≡ false
      go x (yes q) = both_left _ _ (between_above 1 0xFFE x (omega arith))
      go x (no d) = both_right (between 1 0xFFE x) _ (both_left _ _ (ne_eqb (x / 8) w d))

-- ---- a byte of a map, shifted

abbrev first_rule : ℕ → ℕ → ℕ → Bool
first_rule m s k = alike (bit_of (m * 2 ^ (8 - s) / 256) k) (both (leb s k) (bit_of m (k - s)))

abbrev second_rule : ℕ → ℕ → ℕ → Bool
second_rule m s k = alike (bit_of (m * 2 ^ (8 - s) % 256) k) (both (leb (suc k) s) (bit_of m (8 + k - s)))

firsts : every 256 (λ m. every 8 (λ s. every 8 (first_rule m s))) ≡ true
unfolding bit_of both
firsts = refl

seconds : every 256 (λ m. every 8 (λ s. every 8 (second_rule m s))) ≡ true
unfolding bit_of both
seconds = refl

smalls : every 256 (λ m. every 8 (λ s. leb (suc (m * 2 ^ (8 - s) / 256)) 256)) ≡ true
unfolding both
smalls = refl

module _ (m s : ℕ) (few : m < 256) (hs : s < 8) where
  shift_small : m * 2 ^ (8 - s) / 256 < 256
  shift_small =
      leb-true (suc (m * 2 ^ (8 - s) / 256)) 256
      (every_at 8 (λ s. leb (suc (m * 2 ^ (8 - s) / 256)) 256) (every_at 256 (λ m. every 8 (λ s. leb (suc (m * 2 ^ (8 - s) / 256)) 256)) smalls m few) s hs)

  shift_fits : m * 2 ^ (8 - s) < 2 ^ 16
  shift_fits = let h = shift_small in omega arith

  pub shift_told : (b : ℕ) → b ≡ m → (b * 2 ^ (8 - s) % 2 ^ 64 ≡ m * 2 ^ (8 - s)) × (b * 2 ^ (8 - s) % 2 ^ 64 < 2 ^ 16)
  shift_told b e =
      let h = shift_fits in
      let f : m * 2 ^ (8 - s) % 2 ^ 64 ≡ m * 2 ^ (8 - s) = mod-eq_of_lt (omega arith) in
      rw (e, f) (refl, h)

  module _ (k : ℕ) (hk : k < 8) where
    first_bit_lem : bit_of (m * 2 ^ (8 - s) / 256) k ≡ both (leb s k) (bit_of m (k - s))
    first_bit_lem =
        let a = every_at 256 (λ m. every 8 (λ s. every 8 (first_rule m s))) firsts m few in
        let b = every_at 8 (λ s. every 8 (first_rule m s)) a s hs in
        alike_same (bit_of (m * 2 ^ (8 - s) / 256) k) (both (leb s k) (bit_of m (k - s))) (every_at 8 (first_rule m s) b k hk)

    second_bit_lem : bit_of (m * 2 ^ (8 - s) % 256) k ≡ both (leb (suc k) s) (bit_of m (8 + k - s))
    second_bit_lem =
        let a = every_at 256 (λ m. every 8 (λ s. every 8 (second_rule m s))) seconds m few in
        let b = every_at 8 (λ s. every 8 (second_rule m s)) a s hs in
        alike_same (bit_of (m * 2 ^ (8 - s) % 256) k) (both (leb (suc k) s) (bit_of m (8 + k - s))) (every_at 8 (second_rule m s) b k hk)

module _ (n m : ℕ) (few : m < 256) (x : ℕ) where
  abbrev hi : ℕ
  hi = m * 2 ^ (8 - n % 8) / 256

  abbrev lo : ℕ
  lo = m * 2 ^ (8 - n % 8) % 256

  on_first : x / 8 ≡ n / 8 → either (in_byte (n / 8) hi x) (in_byte (n / 8 + 1) lo x) ≡ in_shifted n m x
  unfolding in_byte in_shifted both
  on_first e =
      let d : (x / 8 ≡ n / 8 + 1 → ⊥) = λ q. omega arith in
      rw (eq-eqb (x / 8) (n / 8) e, ne_eqb (x / 8) (n / 8 + 1) d, le-leb (suc x) (n + 8) (omega arith))
      (either_none (bit_of hi (x % 8))
      ∙ first_bit_lem m (n % 8) few (omega arith) (x % 8) (omega arith)
      ∙ go (leb n x) refl)
    where
      go : (t : Bool) → leb n x ≡ t → both (leb (n % 8) (x % 8)) (bit_of m (x % 8 - n % 8)) ≡ both (leb n x) (bit_of m (x - n))
      go true q =
          let h = leb-true n x q in
          let same : x % 8 - n % 8 ≡ x - n = omega arith in
          rw (le-leb (n % 8) (x % 8) (omega arith), q, same)
      go false q = let h = leb-false n x q in rw (lt-leb (n % 8) (x % 8) (omega arith), q)

  on_second : x / 8 ≡ n / 8 + 1 → either (in_byte (n / 8) hi x) (in_byte (n / 8 + 1) lo x) ≡ in_shifted n m x
  unfolding in_byte in_shifted both either
  on_second e =
      let d : (x / 8 ≡ n / 8 → ⊥) = λ q. omega arith in
      rw (eq-eqb (x / 8) (n / 8 + 1) e, ne_eqb (x / 8) (n / 8) d, le-leb n x (omega arith))
      (second_bit_lem m (n % 8) few (omega arith) (x % 8) (omega arith)
      ∙ go (leb (suc x) (n + 8)) refl)
    where
      go : (t : Bool) → leb (suc x) (n + 8) ≡ t → both (leb (suc (x % 8)) (n % 8)) (bit_of m (8 + x % 8 - n % 8)) ≡ both (leb (suc x) (n + 8)) (bit_of m (x - n))
      go true q =
          let h = leb-true (suc x) (n + 8) q in
          let same : 8 + x % 8 - n % 8 ≡ x - n = omega arith in
          rw (le-leb (suc (x % 8)) (n % 8) (omega arith), q, same)
      go false q = let h = leb-false (suc x) (n + 8) q in rw (lt-leb (suc (x % 8)) (n % 8) (omega arith), q)

  on_neither : (x / 8 ≡ n / 8 → ⊥) → (x / 8 ≡ n / 8 + 1 → ⊥) → either (in_byte (n / 8) hi x) (in_byte (n / 8 + 1) lo x) ≡ in_shifted n m x
  unfolding in_byte in_shifted both either
  on_neither d e = rw (ne_eqb (x / 8) (n / 8) d, ne_eqb (x / 8) (n / 8 + 1) e) (go (leb n x) refl)
    where
      go : (t : Bool) → leb n x ≡ t → false ≡ both (leb n x) (both (leb (suc x) (n + 8)) (bit_of m (x - n)))
      go true q = let h = leb-true n x q in rw (q, lt-leb (suc x) (n + 8) (omega arith))
      go false q = rw q

  shifted_is : either (in_byte (n / 8) hi x) (in_byte (n / 8 + 1) lo x) ≡ in_shifted n m x
  shifted_is = go (ℕ_discrete (x / 8) (n / 8)) (ℕ_discrete (x / 8) (n / 8 + 1))
    where
      go : Dec (x / 8 ≡ n / 8) → Dec (x / 8 ≡ n / 8 + 1) → either (in_byte (n / 8) hi x) (in_byte (n / 8 + 1) lo x) ≡ in_shifted n m x
      go (yes p) q = on_first p
      go (no p) (yes q) = on_second q
      go (no p) (no q) = on_neither p q

both-either : (g a b : Bool) → either (both g a) (both g b) ≡ both g (either a b)
unfolding both either
both-either true a b = refl
both-either false a b = refl

pub shifted_added : (s t u : List ℕ) (n m b : ℕ) → b ≡ m * 2 ^ (8 - n % 8) → m < 256
    → Gains s t (vlan_in_byte (n / 8) (b / 256))
    → Gains t u (vlan_in_byte (n / 8 + 1) (b % 256))
    → Gains s u (vlan_in_shifted n m)
unfolding vlan_in_byte vlan_in_shifted
shifted_added s t u n m b e few p q = record {
  long = q.long ∙ p.long;
  each = λ x.
      q.each x
      ∙ rw (p.each x, e) (either_assoc (bit_at x s) _ _)
      ∙ ap (either (bit_at x s)) (both-either (between 1 0xFFE x) _ _ ∙ ap (both (between 1 0xFFE x)) (shifted_is n m few x));
}

-- ---- the bytes of a map

unfoldable pub from : ℕ → List ℕ → ℕ → Bool
from n l x = both (leb n x) (bit_at (x - n) l)

module _ (v : List ℕ) (at n x : ℕ) where
  from_next : from n (drop at v) x ≡ either (in_shifted n (get_or v at 0) x) (from (n + 8) (drop (at + 1) v) x)
  unfolding from in_shifted both either bit_at
  from_next = go (leb n x) (leb (n + 8) x) refl refl
    where
      go : (a b : Bool) → leb n x ≡ a → leb (n + 8) x ≡ b
          → both (leb n x) (bit_at (x - n) (drop at v)) ≡ either (both (leb n x) (both (leb (suc x) (n + 8)) (bit_of (get_or v at 0) (x - n)))) (both (leb (n + 8) x) (bit_at (x - (n + 8)) (drop (at + 1) v)))
      go false b e f = let h = leb-false n x e in rw (e, lt-leb (n + 8) x (omega arith))
      go true false e f =
          let h = leb-true n x e in
          let g = leb-false (n + 8) x f in
          let z : (x - n) / 8 ≡ 0 = omega arith in
          let r : (x - n) % 8 ≡ x - n = omega arith in
          rw (e, f, le-leb (suc x) (n + 8) (omega arith), z, r)
          (ap (λ (b : ℕ). bit_of b (x - n)) (get_or-drop at v 0 0 ∙ rw (add-zero at)) ∙ sym (either_none (bit_of (get_or v at 0) (x - n))))
      go true true e f =
          let h = leb-true (n + 8) x f in
          let z : (x - n) / 8 ≡ 1 + (x - (n + 8)) / 8 = omega arith in
          let r : (x - n) % 8 ≡ (x - (n + 8)) % 8 = omega arith in
          let k : at + (1 + (x - (n + 8)) / 8) ≡ at + 1 + (x - (n + 8)) / 8 = omega arith in
          rw (e, f, lt-leb (suc x) (n + 8) (omega arith), z, r)
          (ap (λ (b : ℕ). bit_of b ((x - (n + 8)) % 8)) (get_or-drop at v (1 + (x - (n + 8)) / 8) 0 ∙ rw k (sym (get_or-drop (at + 1) v ((x - (n + 8)) / 8) 0))))

-- what follows the start, as the slice after it
pub map_rest : (v : List ℕ) → take (length v - 2) (drop 2 v) ≡ drop 2 v
map_rest v = take_all (length v - 2) (drop 2 v) (simp length-drop (omega arith))

pub record Mapping (v s₀ s : List ℕ) (n at : ℕ) : Type 0 where
  pub number : n < 4104
  pub long : length s ≡ length s₀
  pub each : (x : ℕ) → either (bit_at x s₀) (in_map vlans x v) ≡ either (bit_at x s) (both (between 1 0xFFE x) (from n (drop at (drop 2 v)) x))

module _ (v s₀ : List ℕ) where
  pub map_none : length v < 2 → Gains s₀ s₀ (in_vlan_map v)
  unfolding in_vlan_map in_map
  map_none h = gains_none s₀ _ (λ x. both_left _ _ (lt-leb 2 (length v) h))

  pub map_start : 2 ≤ length v → (a : ℕ) → a ≡ num (take 2 (drop 0 v)) → Mapping v s₀ s₀ (a % 4096) 0
  unfolding in_map number_of from both
  map_start h a e = record {
    number = omega arith;
    long = refl;
    each = λ x. rw (le-leb 2 (length v) h, e);
  }

  module _ (s : List ℕ) (n at : ℕ) (g : Mapping v s₀ s n at) where
    pub map_next : n ≤ 0xFFF → (t : List ℕ) → Gains s t (vlan_in_shifted n (get_or (drop 2 v) at 0)) → Mapping v s₀ t (n + 8) (at + 1)
    unfolding vlan_in_shifted
    map_next few t a = record {
      number = omega arith;
      long = a.long ∙ g.long;
      each = λ x.
          g.each x
          ∙ rw (from_next (drop 2 v) at n x, ← both-either (between 1 0xFFE x) (in_shifted n (get_or (drop 2 v) at 0) x) (from (n + 8) (drop (at + 1) (drop 2 v)) x), a.each x)
          (sym (either_assoc (bit_at x s) _ _));
    }

    -- what is left lies past the last VLAN
    pub map_past : 0xFFF < n → Gains s₀ s (in_vlan_map v)
    unfolding in_vlan_map from
    map_past h = record { long = g.long; each = λ x. sym (g.each x ∙ ap (either (bit_at x s)) (go x (leb n x) refl) ∙ either_none (bit_at x s)) }
      where
        go : (x : ℕ) (a : Bool) → leb n x ≡ a → both (between 1 0xFFE x) (both (leb n x) (bit_at (x - n) (drop at (drop 2 v)))) ≡ false
        go x true e = let q = leb-true n x e in both_left _ _ (between_above 1 0xFFE x (omega arith))
        go x false e = both_right (between 1 0xFFE x) _ (both_left _ _ e)

    pub map_done : length (drop 2 v) ≤ at → Gains s₀ s (in_vlan_map v)
    unfolding in_vlan_map from
    map_done h = record {
      long = g.long;
      each = λ x.
          let d : length (drop at (drop 2 v)) ≡ length (drop 2 v) - at = length-drop at (drop 2 v) in
          sym
          (g.each x
          ∙ ap (either (bit_at x s)) (both_right (between 1 0xFFE x) _ (both_right (leb n x) _ (bit_past (x - n) (drop at (drop 2 v)) (omega arith))))
          ∙ either_none (bit_at x s));
    }
