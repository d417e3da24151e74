-- `report_set::list_word` meets its contract. The invariant: the tallies listed and those by the bits that are left are all of the word.
use mathlib.Core.Path.{sym, ◌∙◌}
use native.Mathlib.Omega.{arith}
use lib.ListN.{take}
use Rattle.report_set.proofs.Words.{less_bits}
use Rattle.report_set.proofs.Laws.{list_next, list_less, list_end, list_none}
use borrow.Author.Rules.{rules}
use Rattle.report_set.proofs.list_word.Goals as goal

pub bounds-out-c : goal.bounds-out-c
bounds-out-c c =
    let at = c.loop-left in
    let a = c.args in
    let more = list_less a.x at.c at.left at.out c.loop-left-test.true (omega arith) in
    omega arith

pub loop-left-preserved : goal.loop-left-preserved
loop-left-preserved c =
    let at = c.loop-left in
    let a = c.args in
    let some = c.loop-left-test.true in
    let more = list_less a.x at.c at.left at.out some (omega arith) in
    let less = less_bits at.left some in
    (omega arith, (omega arith, (search rules, list_next a.x at.c at.left at.out some (omega arith) (omega arith) _ _ c.trail_of.ensures.0 c.tally_of.ensures ∙ at.invariant.1.1.1)))

pub returns : goal.returns
returns c =
    let at = c.loop-left in
    let a = c.args in
    let none = list_none a.x at.left c.loop-left-test.false in
    (omega arith, sym (list_end a.x at.left (take at.c at.out) c.loop-left-test.false) ∙ at.invariant.1.1.1)
