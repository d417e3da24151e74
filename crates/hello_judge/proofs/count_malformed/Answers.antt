-- `hello_judge::count_malformed` meets its contract: a field is one more.
use Rattle.hello_judge.proofs.Subs.{one_malformed}
use borrow.Author.Rules.{rules}
use Rattle.hello_judge.proofs.count_malformed.Goals as goal

pub returns : goal.returns
returns c = (search one_malformed, search rules)
