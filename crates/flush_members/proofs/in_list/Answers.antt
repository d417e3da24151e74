-- `flush_members::in_list` meets its contract. The invariant: the list has x in it exactly if one from number i on is x.
use Prim.Native.Nat.{ℕ}
use mathlib.Core.Path.{ap}
use lib.Dec.{eqb}
use borrow.Author.Tests.{eq-eqb, ne_eqb}
use Rattle.numbers.specs.Numberings.{in_list}
use Rattle.flush_members.proofs.Laws.{item_near, seek_start, seek_done, seek_hit, seek_next}
use borrow.Author.Rules.{rules}
use Rattle.flush_members.proofs.in_list.Goals as goal

pub loop-i-init : goal.loop-i-init
unfolding in_list
loop-i-init c = search (seek_start, rules)

pub returns-then-number_at-x : goal.returns-then-number_at-x
returns-then-number_at-x c =
    seek_hit _ _ (item_near _ _) _ _ _ c.loop-i.invariant (search rules) _ (ap (λ (n : ℕ). eqb n c.args.x) c.number_at.ensures) (eq-eqb _ _ c.if-number_at-x.true)

pub loop-i-preserved : goal.loop-i-preserved
loop-i-preserved c =
    seek_next _ _ (item_near _ _) _ _ _ c.loop-i.invariant (search rules) _ (ap (λ (n : ℕ). eqb n c.args.x) c.number_at.ensures) (ne_eqb _ _ c.if-number_at-x.false)

pub returns : goal.returns
returns c = search (seek_done, item_near)
