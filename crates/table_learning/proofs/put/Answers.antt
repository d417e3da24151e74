-- `table_learning::put` meets its contract: the slot that is lent comes back packed.
use mathlib.Core.Path.{ap, ◌∙◌}
use Rattle.table.specs.Slots.{put_slot}
use Rattle.table.proofs.Slots.{put_lent}
use Rattle.table_learning.proofs.put.Goals as goal

pub returns : goal.returns
returns c =
    let a = c.args in
    put_lent a.k c.pack.new.slot a.table.now ∙ ap (λ r. put_slot a.k r a.table.now) c.pack.ensures
