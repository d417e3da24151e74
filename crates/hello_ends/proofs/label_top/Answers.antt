-- `hello_ends::label_top` meets its contract: return by return.
use Rattle.hello_ends.proofs.Shapes.{top_fine, top_vlan}
use Rattle.hello_ends.proofs.label_top.Goals as goal

pub returns-then-f-eq1 : goal.returns-then-f-eq1
returns-then-f-eq1 c = search top_fine

pub returns : goal.returns
returns c = search top_vlan
