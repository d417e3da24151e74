-- `numbers::put_le4` meets its contract: all four bytes are written.
use Rattle.numbers.proofs.Swapped.{set_all4}
use Rattle.numbers.proofs.put_le4.Goals as goal

pub returns : goal.returns
returns c = search set_all4
