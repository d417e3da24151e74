-- `hello_write::judge` meets its contract: each way out is an outcome of the definition.
use Rattle.hello_ends.proofs.Judged.{bad_length, bad_end, some_there, area_twice, area_missing, area_good}
use Rattle.hello_write.proofs.Sizing.{size_refused, size_is_one}
use Rattle.hello_write.proofs.judge.Goals as goal

pub returns-then-area-ne0 : goal.returns-then-area-ne0
returns-then-area-ne0 c = (search bad_length, search size_refused)

pub returns-then-w-size : goal.returns-then-w-size
returns-then-w-size c = (search bad_end, search size_refused)

pub number-p-requires : goal.number-p-requires
number-p-requires c = search some_there

pub returns-then-p-gt1 : goal.returns-then-p-gt1
returns-then-p-gt1 c = (search area_twice, search size_refused)

pub returns-then-p-lt1 : goal.returns-then-p-lt1
returns-then-p-lt1 c = (search area_missing, search size_refused)

pub returns : goal.returns
returns c = (search area_good, search size_is_one)
