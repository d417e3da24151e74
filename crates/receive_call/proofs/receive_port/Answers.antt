-- `receive_call::receive_port` meets its contract: 1, 2, 21, what parsing refuses, or what the fields lead to.
use Rattle.receive_call.proofs.Laws.{settings_out, table_out, map_out, parse_out, holds, acted_out}
use Rattle.receive_call.proofs.receive_port.Goals as goal

pub returns-then-not-settings_good : goal.returns-then-not-settings_good
returns-then-not-settings_good c = let a = c.args in
    settings_out a.s a.map.now a.f.now a.table.now a.out.now _ c.settings_good.ensures c.if-not-settings_good.true

pub returns-then-not-table_good : goal.returns-then-not-table_good
returns-then-not-table_good c = let a = c.args in
    table_out a.s a.map.now a.f.now a.table.now a.out.now _ c.settings_good.ensures c.if-not-settings_good.false _ c.table_good.ensures c.if-not-table_good.true

pub returns-then-not-map_good_for_reading : goal.returns-then-not-map_good_for_reading
returns-then-not-map_good_for_reading c = let a = c.args in
    map_out a.s a.map.now a.f.now a.table.now a.out.now _ c.settings_good.ensures c.if-not-settings_good.false _ c.table_good.ensures c.if-not-table_good.false _ c.map_good_for_reading.ensures c.if-not-map_good_for_reading.true

pub act-requires : goal.act-requires
act-requires c =
    (holds _ _ c.settings_good.ensures c.if-not-settings_good.false, (holds _ _ c.table_good.ensures c.if-not-table_good.false, c.in-Ok.ensures.parts))

pub returns-in-Err : goal.returns-in-Err
returns-in-Err c =
    let a = c.args in
    parse_out a.s a.map.now a.f.now a.table.now a.out.now _ c.settings_good.ensures c.if-not-settings_good.false _ c.table_good.ensures c.if-not-table_good.false _ c.map_good_for_reading.ensures c.if-not-map_good_for_reading.false _ c.in-Err.ensures

pub returns-in-Ok : goal.returns-in-Ok
returns-in-Ok c = let a = c.args in
    acted_out a.s a.map.now a.f.now a.table.now a.out.now _ c.settings_good.ensures c.if-not-settings_good.false _ c.table_good.ensures c.if-not-table_good.false _ c.map_good_for_reading.ensures c.if-not-map_good_for_reading.false _ c.in-Ok.ensures _ c.act.ensures
