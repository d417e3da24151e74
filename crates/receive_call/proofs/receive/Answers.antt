-- `receive_call::receive` meets its contract: 1, 2, what parsing refuses, or what the fields lead to.
use mathlib.Core.List.{[]}
use mathlib.Core.Bool.{true}
use mathlib.Core.Path.{refl, sym}
use Rattle.receive_call.proofs.Laws.{settings_out, table_out, parse_out, holds, acted_out, none_out}
use Rattle.receive.proofs.NoMap.{empty_good}
use Rattle.receive_call.proofs.receive.Goals as goal

pub returns-then-not-settings_good : goal.returns-then-not-settings_good
returns-then-not-settings_good c = let a = c.args in
    none_out _ _ _ _ _ (settings_out a.s [] a.f.now a.table.now a.out.now _ c.settings_good.ensures c.if-not-settings_good.true)

pub returns-then-not-table_good : goal.returns-then-not-table_good
returns-then-not-table_good c = let a = c.args in
    none_out _ _ _ _ _ (table_out a.s [] a.f.now a.table.now a.out.now _ c.settings_good.ensures c.if-not-settings_good.false _ c.table_good.ensures c.if-not-table_good.true)

pub act_unmapped-requires : goal.act_unmapped-requires
act_unmapped-requires c =
    (holds _ _ c.settings_good.ensures c.if-not-settings_good.false, (holds _ _ c.table_good.ensures c.if-not-table_good.false, c.in-Ok.ensures.parts))

pub returns-in-Err : goal.returns-in-Err
returns-in-Err c =
    let a = c.args in
    none_out _ _ _ _ _ (parse_out a.s [] a.f.now a.table.now a.out.now _ c.settings_good.ensures c.if-not-settings_good.false _ c.table_good.ensures c.if-not-table_good.false true (sym empty_good) refl _ c.in-Err.ensures)

pub returns-in-Ok : goal.returns-in-Ok
returns-in-Ok c = let a = c.args in
    none_out _ _ _ _ _ (acted_out a.s [] a.f.now a.table.now a.out.now _ c.settings_good.ensures c.if-not-settings_good.false _ c.table_good.ensures c.if-not-table_good.false true (sym empty_good) refl _ c.in-Ok.ensures _ c.act_unmapped.ensures)
