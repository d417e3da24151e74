-- `shinglebar::shinglebar_send` meets its contract: the word of the answer, and the area that the call left.
use mathlib.Core.Path.{ap, ◌∙◌}
use Rattle.numbers.specs.After.{area_as}
use Rattle.frame.specs.declared.Settings.{Settings}
use Rattle.convert.specs.Sending.{sent}
use Rattle.convert.specs.Words.{send_word}
use Rattle.shinglebar.proofs.shinglebar_send.Goals as goal

pub returns : goal.returns
returns c =
    let a = c.args in
    rw c.found_word.ensures.send
    (ap (area_as send_word) c.send.ensures
    ∙ ap (λ (s : Settings). area_as send_word (sent s a.frame.now a.work.now)) c.settings-s.ensures)
