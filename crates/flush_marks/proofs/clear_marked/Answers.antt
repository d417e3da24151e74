-- `flush_marks::clear_marked` meets its contract. The invariant: the marked ones of the first `k` slots are cleared and counted.
use native.Mathlib.Omega.{arith}
use Rattle.flush_marks.proofs.Clearing.{cleared_none, cleared_next, cleared_eight, cleared_found, cleared_rest, cleared_ends}
use borrow.Author.Rules.{rules}
use Rattle.flush_marks.proofs.clear_marked.Goals as goal

pub loop-k-init : goal.loop-k-init
loop-k-init c = (search rules, search cleared_none)

pub clear_run-requires : goal.clear_run-requires
clear_run-requires c =
    let room = (c.eight_marked.ensures c.if-eight_marked.true).room in
    let long = c.loop-k.invariant.1.long in
    omega arith

pub loop-k-preserved-then-eight_marked : goal.loop-k-preserved-then-eight_marked
loop-k-preserved-then-eight_marked c =
    let eight = c.eight_marked.ensures in
    let full = c.if-eight_marked.true in
    let room = (eight full).room in
    (omega arith, cleared_eight _ _ _ _ _ c.loop-k.invariant.1 _ eight full _ c.clear_run.ensures)

pub clear_slot-requires : goal.clear_slot-requires
clear_slot-requires c =
    let long = c.loop-k.invariant.1.long in
    omega arith

pub loop-k-preserved-then-has : goal.loop-k-preserved-then-has
loop-k-preserved-then-has c = (search rules, cleared_next _ _ _ _ _ c.loop-k.invariant.1 (omega arith) _ c.has.ensures c.if-has.true _ c.clear_slot.ensures)

-- the slot that was found is one of the table
pub clear_slot-requires-in-Some : goal.clear_slot-requires-in-Some
clear_slot-requires-in-Some c =
    let inside = (c.next_marked.ensures.hit _ c.in-Some.is).within in
    let long = c.loop-k.invariant.1.long in
    omega arith

pub overflow_add-k-in-Some : goal.overflow_add-k-in-Some
overflow_add-k-in-Some c =
    let inside = (c.next_marked.ensures.hit _ c.in-Some.is).within in
    omega arith

pub loop-k-smaller : goal.loop-k-smaller
loop-k-smaller c =
    let f = c.next_marked.ensures.hit _ c.in-Some.is in
    let far = f.behind in
    let inside = f.within in
    omega arith

pub loop-k-preserved : goal.loop-k-preserved
loop-k-preserved c = cleared_found _ _ _ _ _ c.loop-k.invariant.1 _ c.has.ensures c.if-has.false _ c.next_marked.ensures _ c.in-Some.is _ c.clear_slot-in-Some.ensures

pub returns-in-None : goal.returns-in-None
returns-in-None c = search cleared_rest

pub returns : goal.returns
returns c = search cleared_ends
