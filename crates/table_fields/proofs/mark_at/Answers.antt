-- `table_fields::mark_at` meets its contract: it is the byte after the fields.
use mathlib.Core.Path.{sym, ◌∙◌}
use lib.Seq.{get_or-drop}
use Rattle.table.specs.Record.{record_bytes}
use Rattle.table_fields.proofs.mark_at.Goals as goal

pub returns : goal.returns
returns c =
    let a = c.args in
    (c.wide.ensures.0 ∙ sym (get_or-drop a.at a.t.now record_bytes 0), c.wide.ensures.1)
