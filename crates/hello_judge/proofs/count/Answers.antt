-- `hello_judge::count` meets its contract: the TLVs of a payload count what its items do.
use Rattle.hello_judge.proofs.Levels.{payload_level}
use borrow.Author.Rules.{rules}
use Rattle.hello_judge.proofs.count.Goals as goal

pub returns : goal.returns
returns c = (search payload_level, search rules)
