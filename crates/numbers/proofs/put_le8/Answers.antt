-- `numbers::put_le8` meets its contract: four bytes, and then four.
use Prim.Native.Nat.{ℕ, ◌/◌, ◌%◌, ◌^◌}
use mathlib.Core.List.{List}
use mathlib.Core.Path.{◌≡◌, ap, ◌∙◌}
use lib.ListN.{length}
use Rattle.numbers.specs.Swapped.{low_bytes4}
use Rattle.numbers.proofs.Bytes.{put_two}
use Rattle.numbers.proofs.put_le8.Goals as goal

pub returns : goal.returns
returns c =
    let w : ℕ = c.args.w in
    let ys : List ℕ = c.put_le4.new.s in
    let zs : List ℕ = c.put_le4-2.new.s in
    let first : ys ≡ low_bytes4 (w % 2 ^ 32) = c.put_le4.ensures in
    let second : zs ≡ low_bytes4 (w / 2 ^ 32) = c.put_le4-2.ensures in
    put_two c.args.s.now ys zs 4 4 c.requires (ap length first) (ap length second) ∙ rw (first, second)
