-- `flush_nicknames::may_be_meant` meets its contract: there are no filter bits, or the label's bit decides.
use Rattle.flush_nicknames.proofs.First.{no_bits, by_bit}
use Rattle.flush_nicknames.proofs.may_be_meant.Goals as goal

pub returns-then-near-ne-BUCKET_BYTES : goal.returns-then-near-ne-BUCKET_BYTES
returns-then-near-ne-BUCKET_BYTES c = search no_bits

pub returns : goal.returns
returns c = search by_bit
