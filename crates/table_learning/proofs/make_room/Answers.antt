-- `table_learning::make_room` meets its contract.
use mathlib.Core.Path.{sym, ap, ◌∙◌}
use native.Mathlib.Omega.{arith}
use Rattle.numbers.proofs.Truth.{pick_true, pick_false}
use Rattle.table.specs.declared.Label.{Label}
use Rattle.table_pairs.specs.Pairs.{pair_good}
use Rattle.table_learning.specs.Judging.{room_if}
use Rattle.table_homes.proofs.Laws.{label_is}
use Rattle.table_learning.proofs.Laws.{judge_good, neither}
use borrow.Author.Rules.{rules}
use Rattle.table_learning.proofs.make_room.Goals as goal

pub returns-then-e-count : goal.returns-then-e-count
unfolding room_if
returns-then-e-count c = sym (pick_true _ _ _ c.if-e-count.true)

pub clear_slots-requires : goal.clear_slots-requires
clear_slots-requires c =
    let a = c.args in
    let kind = c.kind_number-kind.ensures in
    let same = label_is a.e.label _ _ kind.0 c.label_number-label.ensures in
    let judges = c.requires.1 in
    let within = judges.within in (
      record {
        key_is = c.key_of-key.ensures;
        pair = record {
          kind_small = kind.1;
          label_small = search rules;
          mac_small = search rules;
          good = ap (λ (l : Label). pair_good l a.e.mac) same ∙ judge_good a.e a.table.now a.k a.count judges;
        };
        label_is = same;
      },
      (omega (arith, within), judges.below (neither a.e.multihomed _ c.if-e-count.false)),
    )

pub returns : goal.returns
unfolding room_if
returns c = c.clear_slots.ensures ∙ sym (pick_false _ _ _ c.if-e-count.false)
