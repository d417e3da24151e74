-- `models_call::flush_vlan_only` meets its contract: refused, corrupt, or cleared by the parts that the payload is made of.
use mathlib.Core.Path.{refl}
use native.Mathlib.Omega.{arith}
use Rattle.flush_call.proofs.Calls.{flush_slots, good_front, good_blocks, good_kinds}
use Rattle.models_call.proofs.Calls.{small_refused, small_corrupt, small_cleared, small_fits}
use Rattle.models_call.proofs.flush_vlan_only.Goals as goal

pub returns-then-not-table_good : goal.returns-then-not-table_good
returns-then-not-table_good c = small_refused _ _ _ _ c.table_good.ensures c.if-not-table_good.true

pub nick_bytes-k-requires : goal.nick_bytes-k-requires
nick_bytes-k-requires c = omega (arith, good_front _ _ c.in-Ok.ensures _ refl)

pub slice_bounds-clear_vlans-end : goal.slice_bounds-clear_vlans-end
slice_bounds-clear_vlans-end c = omega (arith, good_front _ _ c.in-Ok.ensures _ refl)

pub slice_bounds-clear_vlans-count-2 : goal.slice_bounds-clear_vlans-count-2
slice_bounds-clear_vlans-count-2 c = omega (arith, good_front _ _ c.in-Ok.ensures _ refl)

pub slice_bounds-clear_vlans-start-2 : goal.slice_bounds-clear_vlans-start-2
slice_bounds-clear_vlans-start-2 c = omega (arith, good_front _ _ c.in-Ok.ensures _ refl)

pub clear_vlans-n-requires : goal.clear_vlans-n-requires
clear_vlans-n-requires c =
    let judged = c.in-Ok.ensures in
    let nicks = c.nick_bytes-k.ensures.0 in (
      flush_slots _ _ c.table_good.ensures c.if-not-table_good.false,
      (good_blocks _ _ judged _ refl _ nicks, good_kinds _ _ judged _ refl _ nicks),
    )

pub overflow_cast-result : goal.overflow_cast-result
overflow_cast-result c =
    let a = c.args in
    omega (arith, small_fits a.payload.now _ c.in-Ok.ensures a.ingress a.table.now _ c.table_good.ensures c.if-not-table_good.false _ refl _ c.nick_bytes-k.ensures.0 _ _ c.clear_vlans-n.ensures)

pub returns-in-Err : goal.returns-in-Err
returns-in-Err c = small_corrupt _ _ c.in-Err.ensures _ _ _ c.table_good.ensures c.if-not-table_good.false _ refl

pub returns : goal.returns
returns c = small_cleared _ _ c.in-Ok.ensures _ _ _ c.table_good.ensures c.if-not-table_good.false _ refl _ c.nick_bytes-k.ensures.0 _ _ c.clear_vlans-n.ensures
