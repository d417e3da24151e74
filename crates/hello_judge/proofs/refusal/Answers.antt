-- `hello_judge::refusal` meets its contract: return by return.
use Rattle.hello_judge.proofs.Levels.{refused_malformed, refused_twice, refused_missing, refused_none}
use Rattle.hello_judge.proofs.refusal.Goals as goal

pub returns-then-c-gt0 : goal.returns-then-c-gt0
returns-then-c-gt0 c = search refused_malformed

pub returns-then-c-gt1 : goal.returns-then-c-gt1
returns-then-c-gt1 c = search refused_twice

pub returns-then-c-lt1 : goal.returns-then-c-lt1
returns-then-c-lt1 c = search refused_missing

pub returns : goal.returns
returns c = search refused_none
