-- `shinglebar::watched::send` meets its contract: the word of the answer, the watch after it, and the area that the call left.
use mathlib.Core.Path.{ap, ◌∙◌}
use Rattle.frame.specs.declared.Settings.{Settings}
use Rattle.convert.specs.Words.{send_word}
use Rattle.watch.specs.Time.{watch_of}
use Rattle.watch.specs.Sending.{watched_as, sent_watched}
use Rattle.shinglebar.proofs.watched.send.Goals as goal

pub returns : goal.returns
returns c =
    let a = c.args in
    rw c.found_word.ensures.send
    (ap (watched_as send_word) c.send-k.ensures
    ∙ ap (λ (s : Settings). watched_as send_word (sent_watched s a.clock (watch_of a.left a.reading) a.frame.now a.work.now)) c.settings-s.ensures)
