-- `table_pairs::fields_hold` meets its contract: the first eight bytes, the key and three more bits are all of the label and the address.
use mathlib.Core.Path.{ap, ◌∙◌}
use Rattle.numbers.specs.Ranges.{nickname_good}
use Rattle.table_pairs.proofs.Laws.{pair_other, pair_bits, pair_rest}
use Rattle.table_pairs.proofs.fields_hold.Goals as goal

pub returns-then-not-held : goal.returns-then-not-held
returns-then-not-held c =
    let a = c.args in
    let head = c.head_at-head.ensures in
    pair_other a.kind a.label a.mac _ c.requires.1.1 _ head.0 head.1 c.if-not-held.true

pub returns-then-mac_low_at-mac : goal.returns-then-mac_low_at-mac
returns-then-mac_low_at-mac c =
    let a = c.args in
    let head = c.head_at-head.ensures in
    pair_bits a.kind a.label a.mac _ c.requires.1.1 _ head.0 head.1 _ c.mac_low_at.ensures c.if-mac_low_at-mac.true

pub returns : goal.returns
returns c =
    let a = c.args in
    let head = c.head_at-head.ensures in
    pair_rest a.kind a.label a.mac _ c.requires.1.1 _ head.0 head.1 _ c.mac_low_at.ensures c.requires.1.0 c.if-not-held.false c.if-mac_low_at-mac.false _
    (c.nickname_good.ensures ∙ ap nickname_good c.nickname_at.ensures.0)
