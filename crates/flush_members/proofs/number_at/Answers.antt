-- `flush_members::number_at` meets its contract: the reserved bits fall away.
use Rattle.numbers.specs.Numberings.{number_of}
use Rattle.flush_members.proofs.Laws.{number_small}
use Rattle.flush_members.proofs.number_at.Goals as goal

pub returns-then-n-w : goal.returns-then-n-w
returns-then-n-w c = search number_small

pub returns : goal.returns
unfolding number_of
returns c = cc
