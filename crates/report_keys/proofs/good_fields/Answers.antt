-- `report_keys::good_fields` meets its contract: each test is one of the entry.
use Rattle.report_keys.proofs.Laws.{fields_vlan_0, fields_above, fields_group, fields_nickname}
use Rattle.report_keys.proofs.good_fields.Goals as goal

pub returns-then-k-lt-FIRST_FRONT : goal.returns-then-k-lt-FIRST_FRONT
returns-then-k-lt-FIRST_FRONT c = λ n small is ex. fields_vlan_0 n _ _ small is ex c.if-k-lt-FIRST_FRONT.true

pub returns-then-above : goal.returns-then-above
returns-then-above c = λ n small is ex. fields_above n _ _ small is ex c.if-above.true

pub returns-then-head-ne0 : goal.returns-then-head-ne0
returns-then-head-ne0 c = λ n small is ex. fields_group n _ _ small is ex c.if-head-ne0.true

pub returns : goal.returns
returns c = λ n small is ex. fields_nickname n _ _ small is ex c.if-k-lt-FIRST_FRONT.false c.if-above.false c.if-head-ne0.false _ c.nickname_good.ensures
