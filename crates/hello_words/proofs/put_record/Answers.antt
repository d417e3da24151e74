-- `hello_words::put_record` meets its contract: return by return.
use Rattle.hello_words.proofs.Words.{record_put}
use Rattle.hello_words.proofs.put_record.Goals as goal

pub returns : goal.returns
returns c = search record_put
