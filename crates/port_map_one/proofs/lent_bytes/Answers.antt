-- `port_map_one::lent_bytes` meets its contract: the tests are the definition's.
use native.Mathlib.Omega.{arith}
use borrow.Author.Tests.{eq-eqb, ne_eqb}
use Rattle.numbers.specs.Tests.{pick}
use Rattle.port_map_one.specs.One.{lent_bytes}
use Rattle.port_map_one.proofs.lent_bytes.Goals as goal

pub returns-then-n-eq0 : goal.returns-then-n-eq0
unfolding lent_bytes pick
returns-then-n-eq0 c = (rw (eq-eqb _ _ c.if-n-eq0.true), omega arith)

pub returns-then-good : goal.returns-then-good
unfolding lent_bytes pick
returns-then-good c = (rw (ne_eqb _ _ c.if-n-eq0.false, c.if-good.true), omega arith)

pub returns : goal.returns
unfolding lent_bytes pick
returns c = (rw (ne_eqb _ _ c.if-n-eq0.false, c.if-good.false), omega arith)
