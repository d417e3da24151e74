-- `table_search::find_spoilt` meets its contract. The invariant: none of the slots below slot `i` is spoilt.
use mathlib.Core.Path.{refl}
use native.Mathlib.Omega.{arith}
use Rattle.table.specs.Slots.{first_slot}
use Rattle.table.proofs.Slots.{search_next, search_hit, search_end}
use Rattle.table.specs.Table.{spoilt_slot}
use Rattle.table.proofs.Contents.{spoilt_near}
use Rattle.table_search.proofs.find_spoilt.Goals as goal

pub loop-i-init : goal.loop-i-init
unfolding first_slot
loop-i-init c = refl

pub returns-then-spoilt_at : goal.returns-then-spoilt_at
returns-then-spoilt_at c =
    search_hit spoilt_slot spoilt_near c.args.t.now c.loop-i.i c.loop-i.invariant _ c.spoilt_at.ensures (omega arith) c.if-spoilt_at.true

pub loop-i-preserved : goal.loop-i-preserved
loop-i-preserved c =
    search_next spoilt_slot spoilt_near c.args.t.now c.loop-i.i c.loop-i.invariant _ c.spoilt_at.ensures c.if-spoilt_at.false

pub returns : goal.returns
returns c = search_end spoilt_slot spoilt_near c.args.t.now c.loop-i.i (omega arith) (omega arith) c.loop-i.invariant
