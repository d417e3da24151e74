-- `flush_write_lists::list_good` meets its contract. The invariant: the list is good exactly if the blocks so far are, and the others.
use Rattle.flush_write_lists.proofs.Laws.{not_whole, too_many, blocks_judged, judged_more, judged_all}
use Rattle.flush_write_lists.proofs.list_good.Goals as goal

pub returns-then-l-n-ne0 : goal.returns-then-l-n-ne0
returns-then-l-n-ne0 c = search not_whole

pub returns-then-l-n-gt-MOST_LISTED : goal.returns-then-l-n-gt-MOST_LISTED
returns-then-l-n-gt-MOST_LISTED c = search too_many

pub loop-i-init : goal.loop-i-init
loop-i-init c = search blocks_judged

pub loop-i-preserved : goal.loop-i-preserved
loop-i-preserved c = search judged_more

pub returns : goal.returns
returns c = search judged_all
