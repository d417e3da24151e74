-- What is written of a list reads as the list: blocks and nicknames, over the width.
-- Assumes nothing.
use Prim.Native.Nat.{ℕ, ◌*◌, ◌^◌, ◌<◌, ◌≤◌}
use mathlib.Core.Bool.{true, not}
use mathlib.Core.List.{List, [], ◌∷◌, ◌++◌, map}
use mathlib.Core.Path.{◌≡◌, refl, ap, ◌∙◌}
use native.Mathlib.Nat.{mod-eq_of_lt}
use native.Mathlib.Omega.{arith}
use lib.Dec.{leb, eqb}
use lib.ListN.{length, length-append}
use lib.Seq.{take_at, drop_at}
use borrow.Author.Tests.{leb-true, le-leb, ne_eqb}
use Rattle.numbers.specs.Tests.{pick, either, any_of, all_of}
use Rattle.numbers.specs.Bytes.{bytes_of, parts}
use Rattle.numbers.specs.Numberings.{nicknames, number_of, at_least, at_most, start_of, end_of, in_block, filled, in_blocks, some_filled, in_list}
use Rattle.numbers.specs.declared.Numbering.{Numbering}
use Rattle.numbers.proofs.Truth.{both_true}
use Rattle.numbers.proofs.Bytes.{length-bytes_of, num_same, take-bytes_of}
use Rattle.numbers.proofs.Parts.{parts-joined, length-joined}
use Rattle.flush_write.specs.Writing.{Block, block_good, block_bytes, blocks_bytes, nicks_bytes}
use Rattle.flush_write.specs.Claims.{block_has}
use Rattle.flush_write.proofs.Lists.{any-map, any_where}

at-least : (m n : ℕ) → m ≤ n → at_least m n ≡ n
unfolding at_least pick
at-least m n h = rw (le-leb m n h)

at-most : (m n : ℕ) → n ≤ m → at_most m n ≡ n
unfolding at_most pick
at-most m n h = rw (le-leb n m h)

module _ (w : Numbering) where
  pub length_block : (b : Block) → length (block_bytes w.size b) ≡ 2 * w.size
  unfolding block_bytes
  length_block b =
      let n = length-append (bytes_of w.size b.start) (bytes_of w.size b.end) in
      let s = length-bytes_of w.size b.start in
      let e = length-bytes_of w.size b.end in
      omega arith

  pub length_blocks : (bs : List Block) → length (blocks_bytes w.size bs) ≡ 2 * w.size * length bs
  unfolding blocks_bytes
  length_blocks bs = length-joined (2 * w.size) (block_bytes w.size) length_block bs

  -- the numbers of the width fit in its bytes
  module _ (fits : w.high < w.modulus) (room : w.high < 256 ^ w.size) where
    number_first : (n : ℕ) (r : List ℕ) → n ≤ w.high → number_of w (bytes_of w.size n ++ r) ≡ n
    unfolding number_of
    number_first n r h =
        rw (take_at (bytes_of w.size n) r w.size (length-bytes_of w.size n), num_same w.size n (omega arith))
        (mod-eq_of_lt (omega arith))

    number_alone : (n : ℕ) → n ≤ w.high → number_of w (bytes_of w.size n) ≡ n
    unfolding number_of
    number_alone n h = rw (take-bytes_of w.size n, num_same w.size n (omega arith)) (mod-eq_of_lt (omega arith))

    module _ (b : Block) (good : block_good w.low w.high b ≡ true) where
      bounds : (w.low ≤ b.start) × (b.start ≤ b.end) × (b.end ≤ w.high)
      unfolding block_good
      bounds =
          let p = both_true (leb w.low b.start) _ good in
          let q = both_true (leb b.start b.end) (leb b.end w.high) p.1 in
          (leb-true w.low b.start p.0, leb-true b.start b.end q.0, leb-true b.end w.high q.1)

      start_back : start_of w (block_bytes w.size b) ≡ b.start
      unfolding start_of block_bytes
      start_back =
          let o = bounds in
          rw (number_first b.start (bytes_of w.size b.end) (omega arith)) (at-least w.low b.start (omega arith))

      end_back : end_of w (block_bytes w.size b) ≡ b.end
      unfolding end_of block_bytes
      end_back =
          let o = bounds in
          rw (
            drop_at (bytes_of w.size b.start) (bytes_of w.size b.end) w.size (length-bytes_of w.size b.start),
            number_alone b.end (omega arith),
          ) (at-most w.high b.end (omega arith))

      block_back : (x : ℕ) → in_block w x (block_bytes w.size b) ≡ block_has x b
      unfolding in_block
      block_back x = rw (start_back, end_back)

      block_filled : filled w (block_bytes w.size b) ≡ true
      unfolding filled
      block_filled = let o = bounds in rw (start_back, end_back) (le-leb b.start b.end (omega arith))

    pub blocks_have : (x : ℕ) (bs : List Block) → all_of (block_good w.low w.high) bs ≡ true → any_of (λ b. in_block w x (block_bytes w.size b)) bs ≡ any_of (block_has x) bs
    blocks_have x bs good = any_where (block_good w.low w.high) (λ b. in_block w x (block_bytes w.size b)) (block_has x) (λ b g. block_back b g x) bs good

    some_there : (bs : List Block) → all_of (block_good w.low w.high) bs ≡ true → any_of (λ b. filled w (block_bytes w.size b)) bs ≡ not (eqb (length bs) 0)
    unfolding any_of all_of either
    some_there [] e = refl
    some_there (b ∷ bs) e = rw (block_filled b (both_true (block_good w.low w.high b) (all_of (block_good w.low w.high) bs) e).0, ne_eqb (length (b ∷ bs)) 0 (λ o. omega arith))

    pub blocks_filled : (bs : List Block) → all_of (block_good w.low w.high) bs ≡ true → not (any_of (λ b. filled w (block_bytes w.size b)) bs) ≡ eqb (length bs) 0
    blocks_filled [] e = rw (some_there [] e)
    blocks_filled (b ∷ bs) e = rw (some_there (b ∷ bs) e, ne_eqb (length (b ∷ bs)) 0 (λ o. omega arith))

  -- a list of blocks in bytes is the blocks
  module _ (some : 0 < 2 * w.size) where
    pub blocks_cut : (bs : List Block) → parts (2 * w.size) (blocks_bytes w.size bs) ≡ map (block_bytes w.size) bs
    unfolding blocks_bytes
    blocks_cut bs = parts-joined (2 * w.size) some (block_bytes w.size) length_block bs

    pub in_blocks_lem : (x : ℕ) (bs : List Block) → in_blocks w x (blocks_bytes w.size bs) ≡ any_of (λ b. in_block w x (block_bytes w.size b)) bs
    unfolding in_blocks
    in_blocks_lem x bs = rw (blocks_cut bs) (any-map (in_block w x) (block_bytes w.size) bs)

    pub some_filled_lem : (bs : List Block) → some_filled w (blocks_bytes w.size bs) ≡ any_of (λ b. filled w (block_bytes w.size b)) bs
    unfolding some_filled
    some_filled_lem bs = rw (blocks_cut bs) (any-map (filled w) (block_bytes w.size) bs)

-- ---- nicknames

pub length_nicks : (ns : List ℕ) → length (nicks_bytes ns) ≡ 2 * length ns
unfolding nicks_bytes
length_nicks ns = length-joined 2 (bytes_of 2) (length-bytes_of 2) ns

pub nicks_listed : (x : ℕ) (ns : List ℕ) → all_of (λ n. leb n 0xFFFF) ns ≡ true → in_list nicknames x (nicks_bytes ns) ≡ any_of (λ n. eqb n x) ns
unfolding in_list nicks_bytes
nicks_listed x ns fit =
    rw (parts-joined 2 (omega arith) (bytes_of 2) (length-bytes_of 2) ns)
    (any-map (λ b. eqb (number_of nicknames b) x) (bytes_of 2) ns
    ∙ any_where (λ n. leb n 0xFFFF) (λ n. eqb (number_of nicknames (bytes_of 2 n)) x) (λ n. eqb n x)
    (λ n e. ap (λ (k : ℕ). eqb k x) (number_alone nicknames (omega arith) (omega arith) n (leb-true n 0xFFFF e))) ns fit)
