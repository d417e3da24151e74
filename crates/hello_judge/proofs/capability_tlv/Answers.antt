-- `hello_judge::capability_tlv` meets its contract: return by return.
use Rattle.hello_judge.proofs.Levels.{capability_short, capability_subs, rest_is}
use borrow.Author.Rules.{rules}
use Rattle.hello_judge.proofs.capability_tlv.Goals as goal

pub returns-then-v-lt-CAPABILITY_HEAD : goal.returns-then-v-lt-CAPABILITY_HEAD
returns-then-v-lt-CAPABILITY_HEAD c = (search capability_short, search rules)

pub returns : goal.returns
returns c = (search (capability_subs, rest_is), search rules)
