-- `table_widening::widen_slots` meets its contract. The invariant: the first `i` records are laid at the area's start.
use Prim.Native.Nat.{◌/◌}
use mathlib.Core.Path.{◌≡◌}
use native.Mathlib.Omega.{arith}
use lib.ListN.{length}
use Rattle.table.specs.Record.{record_bytes}
use Rattle.table_widening.proofs.Laws.{none_yet, one_more, all_done}
use Rattle.table_widening.proofs.widen_slots.Goals as goal

pub loop-i-init : goal.loop-i-init
loop-i-init c = none_yet _ _

pub loop-i-preserved : goal.loop-i-preserved
loop-i-preserved c =
    let at = c.loop-i in
    let a = c.args in
    one_more a.old.now a.out.now at.i (omega arith) at.out _ at.invariant c.widen_record.ensures

pub returns : goal.returns
returns c =
    let a = c.args in
    let at = c.loop-i in
    let done : at.i ≡ length a.old.now / record_bytes = omega arith in
    all_done a.old.now a.out.now at.i done at.out at.invariant
