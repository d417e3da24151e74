-- `flush_nicknames::add_nicknames` meets its contract. The invariant: what was added and what is left make up the whole.
use Prim.Native.Nat.{◌+◌, ◌*◌}
use mathlib.Core.Path.{◌≡◌}
use native.Mathlib.Omega.{arith}
use Rattle.flush_sets.proofs.Adding.{nicknames_next, nicknames_done}
use Rattle.flush_nicknames.proofs.add_nicknames.Goals as goal

pub loop-i-preserved : goal.loop-i-preserved
loop-i-preserved c =
    let next : 2 * (c.loop-i.i + 1) ≡ 2 * c.loop-i.i + 2 = omega arith in
    rw next (nicknames_next _ _ _ _ c.loop-i.invariant (omega arith) _ c.be2-x.ensures.0 (omega arith) _ c.add_one.ensures)

pub returns : goal.returns
returns c = nicknames_done _ _ _ _ c.loop-i.invariant (omega arith)
