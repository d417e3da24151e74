-- `receive_teach::life_of` meets its contract: the default, or what was set.
use Rattle.receive_teach.proofs.Laws.{life_default, life_given}
use Rattle.receive_teach.proofs.life_of.Goals as goal

pub returns-then-seconds-eq0 : goal.returns-then-seconds-eq0
returns-then-seconds-eq0 c = search life_default

pub returns : goal.returns
returns c = search life_given
