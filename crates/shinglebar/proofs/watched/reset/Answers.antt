-- `shinglebar::watched::reset` meets its contract: no stop, and the reading brought.
use Rattle.watch.specs.Events.{reset_to}
use Rattle.shinglebar.proofs.watched.reset.Goals as goal

pub returns : goal.returns
unfolding reset_to
returns c = c.shown.ensures
