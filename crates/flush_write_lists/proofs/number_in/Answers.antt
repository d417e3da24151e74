-- `flush_write_lists::number_in` meets its contract: each of the three widths has its reader.
use native.Mathlib.Omega.{arith}
use Rattle.flush_write_lists.proofs.number_in.Goals as goal

pub returns-then-k-eq2 : goal.returns-then-k-eq2
returns-then-k-eq2 c = rw c.if-k-eq2.true c.be2.ensures.0

pub returns-then-k-eq4 : goal.returns-then-k-eq4
returns-then-k-eq4 c = rw c.if-k-eq4.true c.be4.ensures.0

pub be8-requires : goal.be8-requires
be8-requires c = let eight = c.requires.0.eight c.if-k-eq2.false c.if-k-eq4.false in omega arith

pub returns : goal.returns
returns c = rw (c.requires.0.eight c.if-k-eq2.false c.if-k-eq4.false) c.be8.ensures.0
