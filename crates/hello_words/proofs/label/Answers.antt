-- `hello_words::label` meets its contract: return by return.
use Rattle.hello_words.proofs.Words.{label_fine, label_vlan}
use Rattle.hello_words.proofs.label.Goals as goal

pub returns-then-x-eq1 : goal.returns-then-x-eq1
returns-then-x-eq1 c = search label_fine

pub returns : goal.returns
returns c = search label_vlan
