-- `hello_words::put_trees` meets its contract: return by return.
use Rattle.hello_words.proofs.Words.{trees_put}
use Rattle.hello_words.proofs.put_trees.Goals as goal

pub returns : goal.returns
returns c = search trees_put
