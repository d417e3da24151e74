-- `hello_words::put_parameters` meets its contract: return by return.
use Rattle.hello_words.proofs.Words.{parameters_put}
use Rattle.hello_words.proofs.put_parameters.Goals as goal

pub returns : goal.returns
returns c = search parameters_put
