-- `table_homes::homes_of` meets its contract: numbers that no good record can hold are in no slot.
use mathlib.Core.Path.{◌∙◌, sym}
use Rattle.table_homes.proofs.Laws.{seen_bad, label_is}
use borrow.Author.Rules.{rules}
use Rattle.table_homes.proofs.homes_of.Goals as goal

pub returns-then-not-pair_good : goal.returns-then-not-pair_good
returns-then-not-pair_good c =
    let a = c.args in
    let kind = c.kind_number-kind.ensures in
    let label = c.label_number-label.ensures in
    c.no_homes.ensures
    ∙ seen_bad a.e a.t.now _ _ kind.1 (label_is a.e.label _ _ kind.0 label) _ c.pair_good.ensures c.if-not-pair_good.true

pub gathered-requires : goal.gathered-requires
gathered-requires c =
    let a = c.args in
    let kind = c.kind_number-kind.ensures in
    let label = c.label_number-label.ensures in
    record {
      key_is = c.key_of.ensures;
      pair = record {
        kind_small = kind.1;
        label_small = search rules;
        mac_small = search rules;
        good = sym c.pair_good.ensures ∙ c.if-not-pair_good.false;
      };
      label_is = label_is a.e.label _ _ kind.0 label;
    }
