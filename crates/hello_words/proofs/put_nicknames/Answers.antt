-- `hello_words::put_nicknames` meets its contract: return by return.
use Rattle.hello_words.proofs.Words.{nicknames_put}
use Rattle.hello_words.proofs.put_nicknames.Goals as goal

pub returns : goal.returns
returns c = search nicknames_put
