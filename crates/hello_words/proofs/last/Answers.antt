-- `hello_words::last` meets its contract: the last bytes of eight.
use Rattle.numbers.specs.Bytes.{AreBytes}
use Rattle.hello_words.proofs.Parts.{last_bytes}
use Rattle.hello_words.proofs.last.Goals as goal

pub returns : goal.returns
returns g c = let bytes : AreBytes c.args.v.now = λ i. (c.shared_slice_known-1.given i).fits in search (last_bytes, bytes)
