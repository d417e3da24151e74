-- `hello_words::put_first_record` meets its contract: return by return.
use Rattle.hello_words.proofs.Words.{first_record_put}
use Rattle.hello_words.proofs.put_first_record.Goals as goal

pub returns : goal.returns
returns c = search first_record_put
