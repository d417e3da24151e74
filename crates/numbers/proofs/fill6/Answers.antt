-- `numbers::fill6` meets its contract: four bytes, and then two.
use Prim.Native.Nat.{ℕ, ◌/◌, ◌^◌}
use mathlib.Core.List.{List, ◌++◌}
use mathlib.Core.Path.{◌≡◌, ap, ◌∙◌}
use native.Mathlib.Omega.{arith}
use lib.ListN.{length, drop, length-append, length-drop}
use Rattle.numbers.specs.Bytes.{bytes_of}
use Rattle.numbers.proofs.Bytes.{length-bytes_of, length_part, fill_two}
use Rattle.numbers.proofs.fill6.Goals as goal

pub returns : goal.returns
returns c =
    let s : List ℕ = c.args.s.now in
    let ys : List ℕ = c.fill4.new.s in
    let first : ys ≡ bytes_of 4 (c.args.v / 2 ^ 16) = c.fill4.ensures in
    let long : length (ys ++ drop 4 s) ≡ 6 = simp (first, length-append, length-bytes_of, length-drop) (omega arith) in
    fill_two s ys _ 4 2 c.args.v c.requires first
    (c.fill.ensures ∙ ap (λ (k : ℕ). bytes_of k c.args.v) (length_part (ys ++ drop 4 s) 4 2 (omega arith)))
