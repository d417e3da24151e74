-- `flush_write_call::lists_good` meets its contract: no label named, or the tests list by list.
use Rattle.flush_write_call.proofs.Laws.{item_2, item_4, item_8, none_named_lem, all_tell}
use Rattle.flush_write_call.proofs.lists_good.Goals as goal

pub returns-then-vlans-fines : goal.returns-then-vlans-fines
returns-then-vlans-fines c = search none_named_lem

pub list_good-requires : goal.list_good-requires
list_good-requires c = item_2

pub list_good-requires-2 : goal.list_good-requires-2
list_good-requires-2 c = item_4

pub list_good-requires-3 : goal.list_good-requires-3
list_good-requires-3 c = item_8

pub returns : goal.returns
returns c = search all_tell
