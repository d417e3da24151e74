-- `hello_judge::count_tlvs` meets its contract. The invariant: what is left decides.
use Rattle.hello_judge.proofs.Levels.{none_total, tlv_stump, first_past, next_past}
use Rattle.hello_judge.proofs.Laws.{walk_done, walk_cut, walk_next}
use borrow.Author.Rules.{rules}
use Rattle.hello_judge.proofs.count_tlvs.Goals as goal

pub loop-at-init : goal.loop-at-init
loop-at-init c = (search rules, (search first_past, search none_total))

pub returns-then-l-e : goal.returns-then-l-e
returns-then-l-e c = (search (walk_cut, tlv_stump), search rules)

pub loop-at-preserved : goal.loop-at-preserved
loop-at-preserved c = (search rules, (search (next_past, walk_next), search rules))

pub returns : goal.returns
returns c = (search walk_done, search rules)
