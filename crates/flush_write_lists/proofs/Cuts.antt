-- A list's bytes cut into blocks: one more, none left, how many; and cut where a TLV is full.
-- Assumes nothing.
use Prim.Native.Nat.{ℕ, zero, suc, ◌+◌, ◌-◌, ◌*◌, ◌/◌, ◌<◌, ◌≤◌}
use mathlib.Core.List.{List, [], ◌∷◌, ◌++◌, map, flat_map}
use mathlib.Core.Path.{◌≡◌, refl, sym, ap, ◌∙◌}
use native.Mathlib.Decide.{dec_lt}
use native.Mathlib.Nat.{zero-mul, suc-mul, div-eq_of_lt, div-eq-sub-div}
use native.Mathlib.Omega.{arith}
use lib.ListN.{length, take, drop, length-take, length-drop, length-map}
use lib.Seq.{take-take, drop-drop, length-take-le, drop_at, take-add}
use borrow.Author.Tests.{le-leb, lt-leb}
use Rattle.numbers.specs.Tests.{pick}
use Rattle.numbers.specs.Bytes.{parts}
use Rattle.numbers.proofs.Lists.{part_prefix}
use Rattle.numbers.proofs.Parts.{parts_end, parts_more}
use Rattle.flush_write.specs.Writing.{Block, blocks_bytes, groups_from, groups, per_tlv, tlv_bytes, tlvs_bytes}
use Rattle.flush_write.specs.Areas.{block_in, blocks_in}

-- ---- how many parts

module _ (k : ℕ) (some : 0 < k) where
  count_step : (l : List ℕ) → Dec (length l < k) → (k ≤ length l → length (parts k (drop k l)) ≡ length (drop k l) / k) → length (parts k l) ≡ length l / k
  count_step l (yes o) later = rw (parts_end k some l o) (sym (div-eq_of_lt o))
  count_step l (no o) later =
      let i : length (parts k (drop k l)) ≡ (length l - k) / k = later (omega arith) ∙ ap (λ (m : ℕ). m / k) (length-drop k l) in
      let q : length l / k ≡ (length l - k) / k + 1 = div-eq-sub-div some (omega arith) in
      rw (parts_more k some l (omega arith)) (omega arith)

  count_from : (n : ℕ) (l : List ℕ) → length l ≤ n → length (parts k l) ≡ length l / k
  count_from zero l h = count_step l (dec_lt (length l) k) (λ o. absurd (omega arith))
  count_from (suc n) l h =
      let d : length (drop k l) ≡ length l - k = length-drop k l in
      count_step l (dec_lt (length l) k) (λ o. count_from n (drop k l) (omega arith))

  pub parts-count : (l : List ℕ) → length (parts k l) ≡ length l / k
  parts-count l = count_from (length l) l (omega arith)

-- ---- one block, and the others

module _ (k : ℕ) (some : 0 < k) where
  pub blocks_end : (l : List ℕ) → length l < 2 * k → blocks_in k l ≡ []
  unfolding blocks_in
  blocks_end l h = ap (map (block_in k)) (parts_end (2 * k) (omega arith) l h)

  -- a block is its first 2 k bytes
  block_near : (l : List ℕ) → 2 * k ≤ length l → block_in k (take (2 * k) l) ≡ block_in k l
  unfolding block_in
  block_near l h = rw (take-take k (2 * k) l (omega arith), ← part_prefix l k k (2 * k) (omega arith) h)

  pub blocks_more : (l : List ℕ) → 2 * k ≤ length l → blocks_in k l ≡ block_in k l ∷ blocks_in k (drop (2 * k) l)
  unfolding blocks_in
  blocks_more l h = ap (map (block_in k)) (parts_more (2 * k) (omega arith) l h) ∙ rw (block_near l h)

  pub blocks_count : (l : List ℕ) → length (blocks_in k l) ≡ length l / (2 * k)
  unfolding blocks_in
  blocks_count l = length-map (parts (2 * k) l) (block_in k) ∙ parts-count (2 * k) (omega arith) l

  -- ---- the first n blocks, and the others

  block_first : (n : ℕ) (l : List ℕ) → 2 * k ≤ n → 2 * k ≤ length l → block_in k (take n l) ≡ block_in k l
  block_first n l h g =
      let t = length-take n l in
      sym (block_near (take n l) (omega arith)) ∙ ap (block_in k) (take-take (2 * k) n l h) ∙ block_near l g

  take_step : (n : ℕ) (l : List ℕ) → Dec (length l < 2 * k) → (2 * k ≤ length l → blocks_in k (take (n * (2 * k)) (drop (2 * k) l)) ≡ take n (blocks_in k (drop (2 * k) l)))
      → blocks_in k (take (2 * k + n * (2 * k)) l) ≡ take (suc n) (blocks_in k l)
  take_step n l (yes o) later =
      let t = length-take (2 * k + n * (2 * k)) l in
      rw (blocks_end l o) (blocks_end (take (2 * k + n * (2 * k)) l) (omega arith))
  take_step n l (no o) later =
      let t = length-take (2 * k + n * (2 * k)) l in
      blocks_more (take (2 * k + n * (2 * k)) l) (omega arith)
      ∙ rw (
        block_first (2 * k + n * (2 * k)) l (omega arith) (omega arith),
        take-add (2 * k) (n * (2 * k)) l,
        drop_at (take (2 * k) l) (take (n * (2 * k)) (drop (2 * k) l)) (2 * k) (length-take-le (2 * k) l (omega arith)),
        later (omega arith),
        blocks_more l (omega arith),
      )

  pub blocks_take : (n : ℕ) (l : List ℕ) → blocks_in k (take (n * (2 * k)) l) ≡ take n (blocks_in k l)
  blocks_take zero l = rw (zero-mul (2 * k)) (blocks_end [] (omega arith))
  blocks_take (suc n) l =
      let e : suc n * (2 * k) ≡ 2 * k + n * (2 * k) = suc-mul n (2 * k) ∙ omega arith in
      rw e (take_step n l (dec_lt (length l) (2 * k)) (λ o. blocks_take n (drop (2 * k) l)))

  drop_step : (n : ℕ) (l : List ℕ) → Dec (length l < 2 * k) → (2 * k ≤ length l → blocks_in k (drop (n * (2 * k)) (drop (2 * k) l)) ≡ drop n (blocks_in k (drop (2 * k) l)))
      → blocks_in k (drop (2 * k + n * (2 * k)) l) ≡ drop (suc n) (blocks_in k l)
  drop_step n l (yes o) later =
      let t : length (drop (2 * k + n * (2 * k)) l) ≡ length l - (2 * k + n * (2 * k)) = length-drop (2 * k + n * (2 * k)) l in
      rw (blocks_end l o) (blocks_end (drop (2 * k + n * (2 * k)) l) (omega arith))
  drop_step n l (no o) later = ap (blocks_in k) (sym (drop-drop (n * (2 * k)) (2 * k) l)) ∙ later (omega arith) ∙ rw (blocks_more l (omega arith))

  pub blocks_drop : (n : ℕ) (l : List ℕ) → blocks_in k (drop (n * (2 * k)) l) ≡ drop n (blocks_in k l)
  blocks_drop zero l = rw (zero-mul (2 * k))
  blocks_drop (suc n) l =
      let e : suc n * (2 * k) ≡ 2 * k + n * (2 * k) = suc-mul n (2 * k) ∙ omega arith in
      rw e (drop_step n l (dec_lt (length l) (2 * k)) (λ o. blocks_drop n (drop (2 * k) l)))

-- ---- one group, and the others

module _ (n : ℕ) (some : 0 < n) where
  groups_none : (m : ℕ) (bs : List Block) → length bs ≤ 0 → groups_from n m bs ≡ []
  unfolding groups_from pick
  groups_none zero bs h = refl
  groups_none (suc m) bs h = rw (le-leb (length bs) 0 h)

  -- any number that is large enough will do
  groups_enough : (j m : ℕ) (bs : List Block) → length bs ≤ j → length bs ≤ m → groups_from n j bs ≡ groups_from n m bs
  unfolding groups_from
  groups_enough zero m bs h g = sym (groups_none m bs h)
  groups_enough (suc j) zero bs h g = groups_none (suc j) bs g
  groups_enough (suc j) (suc m) bs h g =
      let d : length (drop n bs) ≡ length bs - n = length-drop n bs in
      rw (groups_enough j m (drop n bs) (omega arith) (omega arith))

  first_group : (m : ℕ) (bs : List Block) → 0 < length bs → groups_from n (suc m) bs ≡ take n bs ∷ groups_from n m (drop n bs)
  unfolding groups_from pick
  first_group m bs h = rw (lt-leb (length bs) 0 h)

  groups_more : (bs : List Block) → 0 < length bs → groups n bs ≡ take n bs ∷ groups n (drop n bs)
  unfolding groups
  groups_more bs h =
      let d : length (drop n bs) ≡ length bs - n = length-drop n bs in
      groups_enough (length bs) (suc (length bs)) bs (omega arith) (omega arith)
      ∙ first_group (length bs) bs h
      ∙ ap (λ (gs : List (List Block)). take n bs ∷ gs) (groups_enough (length bs) (length (drop n bs)) (drop n bs) (omega arith) (omega arith))

-- bytes of a list that has a block: a TLV as full as may be, and the others
pub tlvs_step : (kind size k : ℕ) → 0 < k → 0 < per_tlv size → (l : List ℕ) → 2 * k ≤ length l
    → tlvs_bytes kind size (blocks_in k l)
    ≡ tlv_bytes kind (blocks_bytes size (blocks_in k (take (per_tlv size * (2 * k)) l))) ++ tlvs_bytes kind size (blocks_in k (drop (per_tlv size * (2 * k)) l))
unfolding tlvs_bytes flat_map
tlvs_step kind size k some full l h =
    let b = ap length (blocks_more k some l h) in
    rw (blocks_take k some (per_tlv size) l, blocks_drop k some (per_tlv size) l, groups_more (per_tlv size) full (blocks_in k l) (omega arith))

pub tlvs_none : (kind size k : ℕ) → 0 < k → (l : List ℕ) → length l < 2 * k → tlvs_bytes kind size (blocks_in k l) ≡ []
unfolding tlvs_bytes flat_map groups groups_from
tlvs_none kind size k some l h = rw (blocks_end k some l h)
