-- `hello_judge::geninfo_tlv` meets its contract: return by return.
use Rattle.hello_judge.proofs.Levels.{geninfo_short, geninfo_skipped, geninfo-cut, geninfo_subs, rest_is}
use borrow.Author.Rules.{rules}
use Rattle.hello_judge.proofs.geninfo_tlv.Goals as goal

pub returns-then-v-lt-GENINFO_HEAD : goal.returns-then-v-lt-GENINFO_HEAD
returns-then-v-lt-GENINFO_HEAD c = (search geninfo_short, search rules)

pub returns-then-be2-ne-TRILL_APPLICATION : goal.returns-then-be2-ne-TRILL_APPLICATION
returns-then-be2-ne-TRILL_APPLICATION c = (search geninfo_skipped, search rules)

pub returns-then-v-s : goal.returns-then-v-s
returns-then-v-s c = (search geninfo-cut, search rules)

pub returns : goal.returns
returns c = (search (geninfo_subs, rest_is), search rules)
