-- `replay::whole_pairs` meets its contract: the second test.
use Prim.Native.Nat.{ℕ, ◌/◌, ◌%◌}
use mathlib.Core.Path.{sym, ◌∙◌}
use lib.Dec.{eqb, leb}
use lib.ListN.{length}
use borrow.Author.Tests.{leb-true}
use Rattle.numbers.proofs.Truth.{and_both, both_true}
use Rattle.replay.proofs.whole_pairs.Goals as goal

pub returns : goal.returns
returns c h =
    let n : ℕ = length c.args.map.now in
    leb-true (n / 6) 164 (both_true (eqb (n % 6) 0) (leb (n / 6) 164) (sym (and_both (eqb (n % 6) 0) (leb (n / 6) 164)) ∙ h)).1
