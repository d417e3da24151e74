-- Laws of adding to a set of bits: one number, a block, and a loop over parts in which what is left decides.
-- Assumes nothing.
use Prim.Native.Nat.{ℕ, suc, ◌+◌, ◌-◌, ◌%◌, ◌^◌, ◌<◌, ◌≤◌}
use mathlib.Core.Bool.{Bool, true, false}
use mathlib.Core.List.{List, ◌++◌}
use mathlib.Core.Path.{◌≡◌, refl, sym, ap, ◌∙◌}
use native.Mathlib.Nat.{mod-eq_of_lt}
use native.Mathlib.Omega.{arith}
use lib.Dec.{leb, eqb}
use lib.ListN.{length, take, drop, length-drop, length-append}
use lib.Seq.{take-take, drop-drop, take_at, drop_at}
use borrow.Author.Tests.{le-leb, lt-leb, leb-true, leb-false, eq-eqb, ne_eqb, eqb-true, eqb-false}
use Rattle.numbers.specs.Tests.{pick, both, either, any_of, between}
use Rattle.numbers.specs.Bytes.{num, parts}
use Rattle.numbers.specs.Numberings.{vlans, nicknames, number_of, at_least, at_most, start_of, end_of, in_block, in_blocks, in_list, bit_at}
use Rattle.numbers.proofs.Truth.{between_none, either_none, either_assoc}
use Rattle.numbers.proofs.Parts.{parts_end, parts_more}
use Rattle.flush.specs.Meaning.{nickname_meant}
use Rattle.flush_members.proofs.Laws.{Near, item_near}
use Rattle.flush_bits.specs.Ranged.{Ranged}
use Rattle.flush_bits.proofs.Laws.{range_tells}
use Rattle.flush_sets.specs.Gains.{Gains, in_nicknames, in_vlan_block, in_vlan_blocks}

-- ---- a test that says the same

pub gains_same : (s t : List ℕ) (p q : ℕ → Bool) → ((x : ℕ) → p x ≡ q x) → Gains s t p → Gains s t q
gains_same s t p q e g = record { long = g.long; each = λ x. g.each x ∙ ap (either (bit_at x s)) (e x) }

pub gains_none : (s : List ℕ) (q : ℕ → Bool) → ((x : ℕ) → q x ≡ false) → Gains s s q
gains_none s q e = record { long = refl; each = λ x. sym (ap (either (bit_at x s)) (e x) ∙ either_none (bit_at x s)) }

-- ---- one number

pub one_is : (n x : ℕ) (a b : Bool) → leb n x ≡ a → leb (suc x) (n + 1) ≡ b → both a b ≡ eqb n x
unfolding both
one_is n x true true h g =
    let p = leb-true n x h in
    let q = leb-true (suc x) (n + 1) g in
    sym (eq-eqb n x (omega arith))
one_is n x true false h g = let q = leb-false (suc x) (n + 1) g in sym (ne_eqb n x (λ e. omega arith))
one_is n x false b h g = let q = leb-false n x h in sym (ne_eqb n x (λ e. omega arith))

one_gains : (s t : List ℕ) (n : ℕ) → Ranged s t n (n + 1) → Gains s t (eqb n)
one_gains s t n r = record { long = r.long; each = λ x. range_tells s t n (n + 1) r x ∙ ap (either (bit_at x s)) (one_is n x _ _ refl refl) }

-- ---- a loop over parts of k: what was added, and what is left

pub record Going (k : ℕ) (p : ℕ → List ℕ → Bool) (v s₀ s : List ℕ) (at : ℕ) : Type 0 where
  pub place : at ≤ length v
  pub long : length s ≡ length s₀
  pub each : (x : ℕ) → either (bit_at x s₀) (any_of (p x) (parts k v)) ≡ either (bit_at x s) (any_of (p x) (parts k (drop at v)))

module _ (k : ℕ) (p : ℕ → List ℕ → Bool) (v s₀ : List ℕ) where
  pub going_start : Going k p v s₀ s₀ 0
  going_start = record { place = omega arith; long = refl; each = λ x. refl }

  module _ (s : List ℕ) (at : ℕ) (g : Going k p v s₀ s at) (some : 0 < k) where
    going_end : length v - at < k → (q : ℕ → Bool) → ((x : ℕ) → any_of (p x) (parts k v) ≡ q x) → Gains s₀ s q
    unfolding any_of
    going_end h q e =
        let d : length (drop at v) ≡ length v - at = length-drop at v in
        record {
          long = g.long;
          each = λ x. sym (ap (either (bit_at x s₀)) (sym (e x)) ∙ g.each x ∙ rw (parts_end k some (drop at v) (omega arith)) (either_none (bit_at x s)));
        }

    going_next : k ≤ length v - at → (t : List ℕ) → ((x : ℕ) → Near k (p x)) → Gains s t (λ x. p x (drop at v)) → Going k p v s₀ t (at + k)
    unfolding any_of
    going_next h t near a =
        let d : length (drop at v) ≡ length v - at = length-drop at v in
        let l = g.place in
        record {
          place = omega arith;
          long = a.long ∙ g.long;
          each = λ x.
              g.each x
              ∙ rw (parts_more k some (drop at v) (omega arith), near x (drop at v) (omega arith), drop-drop k at v, a.each x)
              (sym (either_assoc (bit_at x s) (p x (drop at v)) (any_of (p x) (parts k (drop (at + k) v)))));
        }

-- the same of a loop over the parts themselves
pub record Parted (k : ℕ) (p : ℕ → List ℕ → Bool) (v s₀ s rest : List ℕ) : Type 0 where
  pub long : length s ≡ length s₀
  pub each : (x : ℕ) → either (bit_at x s₀) (any_of (p x) (parts k v)) ≡ either (bit_at x s) (any_of (p x) (parts k rest))

module _ (k : ℕ) (p : ℕ → List ℕ → Bool) (v s₀ : List ℕ) where
  pub parted_start : Parted k p v s₀ s₀ v
  parted_start = record { long = refl; each = λ x. refl }

  module _ (s rest : List ℕ) (g : Parted k p v s₀ s rest) (some : 0 < k) where
    parted_end : length rest < k → (q : ℕ → Bool) → ((x : ℕ) → any_of (p x) (parts k v) ≡ q x) → Gains s₀ s q
    unfolding any_of
    parted_end h q e = record {
      long = g.long;
      each = λ x. sym (ap (either (bit_at x s₀)) (sym (e x)) ∙ g.each x ∙ rw (parts_end k some rest h) (either_none (bit_at x s)));
    }

    parted_next : (b more : List ℕ) → rest ≡ b ++ more → length b ≡ k → (t : List ℕ) → Gains s t (λ x. p x b) → Parted k p v s₀ t more
    unfolding any_of
    parted_next b more e n t a =
        let room : k ≤ length (b ++ more) = simp length-append (omega arith) in
        record {
          long = a.long ∙ g.long;
          each = λ x.
              g.each x
              ∙ rw (e, parts_more k some (b ++ more) room, take_at b more k n, drop_at b more k n, a.each x)
              (sym (either_assoc (bit_at x s) (p x b) (any_of (p x) (parts k more))));
        }

-- ---- nicknames

abbrev pub names : ℕ → List ℕ → Bool
names x b = eqb (number_of nicknames b) x

module _ (v s₀ s : List ℕ) (at : ℕ) (g : Going 2 names v s₀ s at) where
  pub nicknames_done : length v - at < 2 → Gains s₀ s (in_nicknames v)
  unfolding in_nicknames in_list
  nicknames_done h = going_end 2 names v s₀ s at g (omega arith) h _ (λ x. refl)

  pub nicknames_next : 2 ≤ length v - at → (n : ℕ) → n ≡ num (take 2 (drop at v)) → n < 2 ^ 16 → (t : List ℕ) → Ranged s t n (n + 1) → Going 2 names v s₀ t (at + 2)
  unfolding number_of
  nicknames_next h n e few t r =
      let same : num (take 2 (drop at v)) % 2 ^ 16 ≡ n = rw (← e) (mod-eq_of_lt few) in
      going_next 2 names v s₀ s at g (omega arith) h t (item_near nicknames)
      (gains_same s t (eqb n) (λ x. names x (drop at v)) (λ x. ap (λ (m : ℕ). eqb m x) (sym same)) (one_gains s t n r))

eqb_swap : (a b : ℕ) → eqb a b ≡ eqb b a
eqb_swap a b = go (eqb b a) refl
  where
    go : (c : Bool) → eqb b a ≡ c → eqb a b ≡ eqb b a
    go true e = let q = eqb-true b a e in rw q
    go false e = ne_eqb a b (λ q. eqb-false b a e (sym q)) ∙ sym e

-- ---- one nickname

pub single-listed : (ingress : ℕ) (nicks : List ℕ) → length nicks ≡ 2 → (n : ℕ) → n ≡ num (take 2 (drop 0 nicks)) → n < 2 ^ 16 → (x : ℕ) → eqb x n ≡ nickname_meant ingress nicks x
unfolding nickname_meant pick in_list any_of number_of either
single-listed ingress nicks h n e few x =
    let d : length (drop 2 nicks) ≡ length nicks - 2 = length-drop 2 nicks in
    let same : num (take 2 nicks) % 2 ^ 16 ≡ n = rw (← e) (mod-eq_of_lt few) in
    rw (ne_eqb (length nicks) 0 (λ z. omega arith), parts_more 2 (omega arith) nicks (omega arith), parts_end 2 (omega arith) (drop 2 nicks) (omega arith), take-take 2 2 nicks (omega arith), same)
    (eqb_swap x n ∙ sym (either_none (eqb n x)))

-- ---- blocks of VLANs

pub leb_next : (x e : ℕ) (t : Bool) → leb x e ≡ t → leb (suc x) (e + 1) ≡ t
leb_next x e true h = let p = leb-true x e h in le-leb (suc x) (e + 1) (omega arith)
leb_next x e false h = let p = leb-false x e h in lt-leb (suc x) (e + 1) (omega arith)

module _ (v s : List ℕ) (a b f l : ℕ) (ea : a ≡ num (take 2 (drop 0 v))) (eb : b ≡ num (take 2 (drop 2 v))) (ef : f ≡ at_least 1 (a % 4096)) (el : l ≡ at_most 0xFFE (b % 4096)) where
  start_is : start_of vlans v ≡ f
  unfolding start_of number_of
  start_is = sym (ef ∙ rw ea)

  end_is : end_of vlans v ≡ l
  unfolding end_of number_of
  end_is = sym (el ∙ rw eb)

  pub block_added : (t : List ℕ) → Ranged s t f (l + 1) → Gains s t (in_vlan_block v)
  unfolding in_vlan_block in_block between
  block_added t r = record {
    long = r.long;
    each = λ x. range_tells s t f (l + 1) r x ∙ rw (leb_next x l (leb x l) refl, start_is, end_is);
  }

  pub block_empty : l < f → Gains s s (in_vlan_block v)
  unfolding in_vlan_block in_block
  block_empty h = gains_none s _ (λ x. rw (start_is, end_is) (between_none f l x h))

abbrev pub covers : ℕ → List ℕ → Bool
covers x b = in_block vlans x b

module _ (v s₀ s : List ℕ) (rest : List ℕ) (g : Parted 4 covers v s₀ s rest) where
  pub blocks_done : length rest < 4 → Gains s₀ s (in_vlan_blocks v)
  unfolding in_vlan_blocks in_blocks
  blocks_done h = parted_end 4 covers v s₀ s rest g (omega arith) h _ (λ x. refl)

  pub blocks_next : (b more : List ℕ) → rest ≡ b ++ more → length b ≡ 4 → (t : List ℕ) → Gains s t (in_vlan_block b) → Parted 4 covers v s₀ t more
  unfolding in_vlan_block
  blocks_next b more e n t a = parted_next 4 covers v s₀ s rest g (omega arith) b more e n t a
