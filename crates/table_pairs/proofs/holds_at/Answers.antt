-- `table_pairs::holds_at` meets its contract: a record with another key does not hold the label and the address.
use mathlib.Core.Path.{sym, ◌∙◌}
use lib.ListN.{drop}
use Rattle.table_pairs.proofs.Laws.{other_key}
use Rattle.table_pairs.proofs.holds_at.Goals as goal

pub returns-then-key_at-key : goal.returns-then-key_at-key
returns-then-key_at-key c =
    let a = c.args in
    other_key a.kind a.label a.mac c.requires.1.1.kind_small (drop a.at a.t.now) (λ e. c.if-key_at-key.true (c.key_at.ensures ∙ e ∙ sym c.requires.1.0))

pub holds_keyed-requires : goal.holds_keyed-requires
holds_keyed-requires c =
    (c.requires.0, (sym c.key_at.ensures ∙ c.if-key_at-key.false ∙ c.requires.1.0, c.requires.1.1))
