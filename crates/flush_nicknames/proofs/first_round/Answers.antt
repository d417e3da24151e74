-- `flush_nicknames::first_round` meets its contract. The invariant: no slot of the first `r` rounds has such a nickname.
use Prim.Native.Nat.{◌+◌, ◌*◌}
use mathlib.Core.Path.{◌≡◌}
use native.Mathlib.Omega.{arith}
use Rattle.flush_nicknames.proofs.First.{first_round}
use Rattle.flush_nicknames.proofs.first_round.Goals as goal

pub loop-r-preserved : goal.loop-r-preserved
loop-r-preserved g c =
    let next : c.args.from + 4 * (c.loop-r.r + 1) ≡ c.args.from + 4 * c.loop-r.r + 4 = omega arith in
    rw next (first_round _ _ _ _ _ c.loop-r.invariant (omega arith) (c.none_of_round.ensures c.if-not-none_of_round.false))
