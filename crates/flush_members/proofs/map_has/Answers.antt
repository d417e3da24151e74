-- `flush_members::map_has` meets its contract: each way out is a test of the definition.
use Rattle.flush_members.proofs.Laws.{map_outside, map_before, map_tells}
use Rattle.flush_members.proofs.map_has.Goals as goal

pub returns-then-not-w-x : goal.returns-then-not-w-x
returns-then-not-w-x c = search map_outside

pub returns-then-x-start : goal.returns-then-x-start
returns-then-x-start c = search map_before

pub returns : goal.returns
returns c = search map_tells
