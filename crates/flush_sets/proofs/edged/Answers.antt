-- `flush_sets::edged` meets its contract: only the first and the last byte have such bits.
use Rattle.flush_sets.proofs.Maps.{edge_low, edge_high, edge_none}
use Rattle.flush_sets.proofs.edged.Goals as goal

pub returns-then-w-eq0 : goal.returns-then-w-eq0
returns-then-w-eq0 c = search edge_low

pub returns-then-w-eq511 : goal.returns-then-w-eq511
returns-then-w-eq511 c = search edge_high

pub returns : goal.returns
returns c = search edge_none
