-- `flush_members::leading` meets its contract: each of the three widths has its reader.
use native.Mathlib.Omega.{arith}
use Rattle.flush_members.proofs.leading.Goals as goal

pub returns-then-size-eq2 : goal.returns-then-size-eq2
returns-then-size-eq2 c = rw c.if-size-eq2.true c.be2.ensures.0

pub returns-then-size-eq3 : goal.returns-then-size-eq3
returns-then-size-eq3 c = rw c.if-size-eq3.true c.be3.ensures.0

pub be6-requires : goal.be6-requires
be6-requires c = let six = c.requires.0.six c.if-size-eq2.false c.if-size-eq3.false in omega arith

pub returns : goal.returns
returns c = rw (c.requires.0.six c.if-size-eq2.false c.if-size-eq3.false) c.be6.ensures.0
