-- `shinglebar::watched::tick` meets its contract: the watch after the reading.
use mathlib.Core.Path.{ap, ◌∙◌}
use Rattle.watch.specs.Events.{watch_as, showing, ticked_to}
use Rattle.watch.specs.Words.{watch_word}
use Rattle.watch.specs.declared.Watch.{Watch}
use Rattle.shinglebar.proofs.watched.tick.Goals as goal

pub returns : goal.returns
unfolding ticked_to
returns c = c.shown.ensures ∙ ap (λ (w : Watch). watch_as watch_word (showing w)) c.tick-w.ensures
