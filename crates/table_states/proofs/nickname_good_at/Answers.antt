-- `table_states::nickname_good_at` meets its contract: the high bits decide but for 0 to 7.
use Rattle.table_states.proofs.Laws.{nickname_in, nickname_few, nickname_out}
use Rattle.table_states.proofs.nickname_good_at.Goals as goal

pub returns-then-high : goal.returns-then-high
returns-then-high c = nickname_in _ _ c.nickname_high_at-high.ensures c.if-high.true

pub returns-then-high-eq0 : goal.returns-then-high-eq0
returns-then-high-eq0 c = nickname_few _ _ c.nickname_high_at-high.ensures c.if-high-eq0.true _ c.nickname_low_at.ensures

pub returns : goal.returns
returns c = nickname_out _ _ c.nickname_high_at-high.ensures c.if-high.false c.if-high-eq0.false
