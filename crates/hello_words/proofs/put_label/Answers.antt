-- `hello_words::put_label` meets its contract: return by return.
use Rattle.hello_words.proofs.Words.{label_put}
use Rattle.hello_words.proofs.put_label.Goals as goal

pub returns : goal.returns
returns c = search label_put
