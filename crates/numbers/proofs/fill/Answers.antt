-- `numbers::fill` meets its contract. The invariant: from `i` on, `s` has the low bytes of `v`, and `left` is what is left of `v`.
use Prim.Native.Nat.{ℕ}
use mathlib.Core.List.{List}
use mathlib.Core.Path.{sym}
use native.Mathlib.Nat.{sub_self, div-one}
use native.Mathlib.Omega.{arith}
use lib.ListN.{length}
use lib.Seq.{drop-length}
use Rattle.numbers.specs.Bytes.{bytes_of}
use Rattle.numbers.proofs.Bytes.{fill_again}
use Rattle.numbers.proofs.fill.Goals as goal

pub loop-i-init : goal.loop-i-init
unfolding bytes_of
loop-i-init c =
    let s : List ℕ = c.args.s.now in
    rw (sub_self (length s)) (drop-length s, sym (div-one c.args.v))

pub loop-i-preserved : goal.loop-i-preserved
loop-i-preserved c =
    let at = c.loop-i in
    fill_again at.s (length c.args.s.now) at.i c.args.v at.left at.auto.s (omega arith) at.auto.i at.invariant.0 at.invariant.1
