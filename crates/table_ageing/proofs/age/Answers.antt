-- `table_ageing::age` meets its contract: refused, or done.
use Rattle.table_ageing.proofs.Laws.{age_refused, age_done}
use Rattle.table_ageing.proofs.age.Goals as goal

pub returns-then-not-table_good : goal.returns-then-not-table_good
returns-then-not-table_good c = search age_refused

pub returns : goal.returns
returns c = search age_done
