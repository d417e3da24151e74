-- `table_search::find_after` meets its contract. The invariant: none of the first `i` slots holds the label and the address.
use Prim.Native.Nat.{◌+◌}
use native.Mathlib.Omega.{arith}
use Rattle.table.proofs.Slots.{search_next, search_hit, search_end}
use Rattle.table.specs.Record.{label_from}
use Rattle.table.specs.Table.{holds}
use Rattle.table.proofs.Contents.{holds_near}
use Rattle.table_search.proofs.Laws.{search_past}
use borrow.Author.Rules.{rules}
use Rattle.table_search.proofs.find_after.Goals as goal

pub loop-i-init : goal.loop-i-init
loop-i-init c = (c.requires.0, c.requires.1.1.1)

pub holds_at-requires : goal.holds_at-requires
holds_at-requires c =
    (omega arith, (c.requires.1.0, c.requires.1.1.0))

pub returns-then-holds_at : goal.returns-then-holds_at
returns-then-holds_at c =
    let a = c.args in
    let at = c.loop-i in
    search_hit (holds (label_from a.kind a.label) a.mac) (holds_near (label_from a.kind a.label) a.mac) a.t.now at.i at.invariant.1 _ c.holds_at.ensures (omega arith) c.if-holds_at.true

pub loop-i-preserved : goal.loop-i-preserved
loop-i-preserved c =
    let a = c.args in
    let at = c.loop-i in
    let here = search_next (holds (label_from a.kind a.label) a.mac) (holds_near (label_from a.kind a.label) a.mac) a.t.now at.i at.invariant.1 _ c.holds_at.ensures c.if-holds_at.false in
    (search rules, search_past a.kind a.label a.mac _ c.requires.1.1.0.kind_small c.round_key_of-round_key.ensures a.t.now (at.i + 1) _ c.next_keyed-i.ensures.0 c.next_keyed-i.ensures.1.1 here)

pub returns : goal.returns
returns c =
    let a = c.args in
    let at = c.loop-i in
    search_end (holds (label_from a.kind a.label) a.mac) (holds_near (label_from a.kind a.label) a.mac) a.t.now at.i at.invariant.0 (omega arith) at.invariant.1
