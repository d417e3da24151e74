-- `shinglebar::shinglebar_flush_vlan_only` meets its contract: the word of the answer, and the table that the flush left.
use mathlib.Core.Path.{ap}
use Rattle.numbers.specs.After.{table_as}
use Rattle.flush.specs.Words.{flush_word}
use Rattle.shinglebar.proofs.shinglebar_flush_vlan_only.Goals as goal

pub returns : goal.returns
returns c = rw c.flush_word.ensures (ap (table_as flush_word) c.flush_vlan_only.ensures)
