-- `hello_count::geninfo_at` meets its contract: return by return.
use Rattle.hello_count.proofs.Levels.{at_short, at_other, at_cut, at_body}
use borrow.Author.Rules.{rules}
use Rattle.hello_count.proofs.geninfo_at.Goals as goal

pub returns-then-v-lt-GENINFO_HEAD : goal.returns-then-v-lt-GENINFO_HEAD
returns-then-v-lt-GENINFO_HEAD c = (search at_short, search rules)

pub returns-then-be2-ne-TRILL_APPLICATION : goal.returns-then-be2-ne-TRILL_APPLICATION
returns-then-be2-ne-TRILL_APPLICATION c = (search at_other, search rules)

pub returns-then-v-s : goal.returns-then-v-s
returns-then-v-s c = (search at_cut, search rules)

pub returns : goal.returns
returns c = (search at_body, search rules)
