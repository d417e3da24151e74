-- `receive_channel::channel_good` meets its contract: the tests are the definition's.
use Rattle.receive_channel.specs.Meaning.{channel_of}
use Rattle.numbers.specs.Tests.{both, either}
use Rattle.receive_channel.proofs.channel_good.Goals as goal

pub returns : goal.returns
unfolding channel_of both either
returns c = rw (← c.channel_version.ensures, ← c.channel_error.ensures)
