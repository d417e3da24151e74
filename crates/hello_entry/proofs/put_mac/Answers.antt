-- `hello_entry::put_mac` meets its contract: six bytes, and two that are 0.
use Rattle.hello_entry.proofs.Writes.{mac_put}
use Rattle.hello_entry.proofs.put_mac.Goals as goal

pub returns : goal.returns
returns c = search mac_put
