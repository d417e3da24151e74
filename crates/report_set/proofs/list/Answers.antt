-- `report_set::list` meets its contract. The invariant: the tallies listed and those of the words that are left are all.
use mathlib.Core.Path.{refl, sym, ap, ◌∙◌}
use native.Mathlib.Omega.{arith}
use lib.ListN.{length, take}
use Rattle.report_set.proofs.Laws.{set_end, set_longer, word_listed, all_listed}
use borrow.Author.Rules.{rules}
use Rattle.report_set.proofs.list.Goals as goal

pub loop-i-init : goal.loop-i-init
loop-i-init c = (search rules, (refl, (refl, refl)))

pub list_word-c-requires : goal.list_word-c-requires
list_word-c-requires c =
    let a = c.args in
    let at = c.loop-i in
    let more = set_longer a.s.now at.i (omega arith) in
    (omega arith, omega arith)

pub loop-i-preserved : goal.loop-i-preserved
loop-i-preserved c =
    let a = c.args in
    let at = c.loop-i in
    let listed = c.list_word-c in
    let more = set_longer a.s.now at.i (omega arith) in
    let count = listed.ensures.0 in
    (search rules, (omega arith, (search rules, word_listed a.s.now at.i (omega arith) (take at.c at.out) _ listed.ensures.1 ∙ at.invariant.1.1.1)))

pub shape_of-out : goal.shape_of-out
shape_of-out c = c.loop-i.invariant.1.1.0

pub returns : goal.returns
returns c =
    let a = c.args in
    let at = c.loop-i in
    let none = ap length (set_end a.s.now at.i (omega arith)) in
    (omega arith, sym (all_listed a.s.now at.i (omega arith) (take at.c at.out)) ∙ at.invariant.1.1.1)
