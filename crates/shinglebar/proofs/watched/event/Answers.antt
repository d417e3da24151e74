-- `shinglebar::watched::event` meets its contract: the word of the answer, and the watch that the event left.
use mathlib.Core.Path.{ap}
use Rattle.watch.specs.Events.{watch_as}
use Rattle.watch.specs.Words.{watch_word}
use Rattle.shinglebar.proofs.watched.event.Goals as goal

pub returns : goal.returns
returns c = rw c.watch_word.ensures (ap (watch_as watch_word) c.event-k.ensures)
