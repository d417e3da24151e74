-- `flush_named::add_named` meets its contract. The invariant: a number that the TLVs name has its bit, or is named from `at` on.
use Rattle.flush_named.proofs.Laws.{adding_start, adding_long, tlvs_done_lem, tlvs-cut, tlvs_full, tlvs_next}
use borrow.Author.Rules.{rules}
use Rattle.flush_named.proofs.add_named.Goals as goal

pub loop-at-init : goal.loop-at-init
loop-at-init c = (search rules, search adding_start)

pub returns-then-l-e : goal.returns-then-l-e
returns-then-l-e c = search tlvs-cut

pub add_value-requires : goal.add_value-requires
add_value-requires c = (search rules, search adding_long)

pub returns-then-add_value : goal.returns-then-add_value
returns-then-add_value c = search tlvs_full

pub loop-at-preserved : goal.loop-at-preserved
loop-at-preserved c = (search rules, search tlvs_next)

pub returns : goal.returns
returns c = search tlvs_done_lem
