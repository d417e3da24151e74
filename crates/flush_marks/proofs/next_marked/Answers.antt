-- `flush_marks::next_marked` meets its contract. The invariant: no slot from `from` on and before `k` is marked.
use Rattle.flush_marks.proofs.Walks.{unmarked_none, tail_here, tail_none, tail_past, tail_hit, next_nowhere}
use borrow.Author.Rules.{rules}
use Rattle.flush_marks.proofs.next_marked.Goals as goal

pub loop-k-init : goal.loop-k-init
loop-k-init c = (search rules, search unmarked_none)

pub returns-then-w-ge-FIRST_BIT : goal.returns-then-w-ge-FIRST_BIT
returns-then-w-ge-FIRST_BIT c = search tail_here

pub returns-then-n-j : goal.returns-then-n-j
returns-then-n-j c = search tail_past

pub returns-then-w-ne0 : goal.returns-then-w-ne0
returns-then-w-ne0 c = search tail_hit

pub loop-k-preserved : goal.loop-k-preserved
loop-k-preserved c = (search rules, search tail_none)

pub returns : goal.returns
returns c = search next_nowhere
