-- `hello_judge::count_sub` meets its contract: other types of either TLV, and of other TLVs, count nothing.
use Rattle.hello_judge.proofs.Subs.{capability_other, geninfo_other, holder_other}
use borrow.Author.Rules.{rules}
use Rattle.hello_judge.proofs.count_sub.Goals as goal

pub returns-in_default : goal.returns-in_default
returns-in_default g c = (rw c.in_default.is-0 (capability_other _ _ _ c.in_default.is-1.0.1 c.in_default.is-1.1), search rules)

pub returns-in_default-2 : goal.returns-in_default-2
returns-in_default-2 g c = (rw c.in_default.is-0 (geninfo_other _ _ _ c.in_default.is-1.0.1 c.in_default.is-1.1), search rules)

pub returns-in_default-3 : goal.returns-in_default-3
returns-in_default-3 g c = (holder_other _ _ _ _ c.in_default.is-0.0.1 c.in_default.is-0.1, search rules)
