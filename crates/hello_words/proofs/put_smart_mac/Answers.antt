-- `hello_words::put_smart_mac` meets its contract: return by return.
use Rattle.hello_words.proofs.Words.{mac_put}
use Rattle.hello_words.proofs.put_smart_mac.Goals as goal

pub returns : goal.returns
returns c = search mac_put
