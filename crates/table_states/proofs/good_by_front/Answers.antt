-- `table_states::good_by_front` meets its contract: each test is one of the entry.
use Rattle.table_states.proofs.Laws.{entry_vlan_0, entry-either, entry_nickname}
use Rattle.table_states.proofs.good_by_front.Goals as goal

pub returns-then-k-lt-FIRST_FRONT : goal.returns-then-k-lt-FIRST_FRONT
returns-then-k-lt-FIRST_FRONT c = entry_vlan_0 _ _ c.requires.1 c.if-k-lt-FIRST_FRONT.true

pub returns-then-group_at-above : goal.returns-then-group_at-above
returns-then-group_at-above c = entry-either _ _ c.requires.1 _ c.group_at.ensures c.if-group_at-above.true

pub returns : goal.returns
returns c =
    entry_nickname _ _ c.requires.1 c.if-k-lt-FIRST_FRONT.false _ c.group_at.ensures c.if-group_at-above.false _ c.nickname_good_at.ensures
