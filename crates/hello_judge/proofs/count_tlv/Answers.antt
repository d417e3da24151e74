-- `hello_judge::count_tlv` meets its contract: return by return.
use Rattle.hello_judge.proofs.Levels.{tlv_skipped}
use borrow.Author.Rules.{rules}
use Rattle.hello_judge.proofs.count_tlv.Goals as goal

pub returns : goal.returns
returns c = (search tlv_skipped, search rules)
