-- `report_gather::gather` meets its contract: what was counted in the set is listed after the tallies.
use native.Mathlib.Omega.{arith}
use Rattle.report_set.specs.Set.{set_words}
use Rattle.report_set.proofs.Laws.{set_empty}
use Rattle.report_gather.proofs.Laws.{only_set, all-counted}
use borrow.Author.Rules.{rules}
use Rattle.report_gather.proofs.gather.Goals as goal

pub count_all-n-requires : goal.count_all-n-requires
count_all-n-requires c = ((c.requires.0, c.requires.1), (search rules, set_empty set_words 0))

pub returns : goal.returns
returns c =
    let count = c.count_all-n in
    let list = c.list-m in
    let few = count.ensures.0 in
    let all = list.ensures.0 in
    ((omega arith, λ none. only_set _ _ _ count.result list.ensures.1 none), all-counted _ _ _ list.ensures.1 count.ensures.1)
