-- `shinglebar::watched::shown` meets its contract: the word of the seconds left.
use Rattle.shinglebar.proofs.watched.shown.Goals as goal

pub returns : goal.returns
returns c = rw c.watch_word.ensures
