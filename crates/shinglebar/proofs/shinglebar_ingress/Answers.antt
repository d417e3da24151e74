-- `shinglebar::shinglebar_ingress` meets its contract: the word of the answer, and the area that the call left.
use mathlib.Core.Path.{ap, ◌∙◌}
use Rattle.numbers.specs.After.{area_as}
use Rattle.frame.specs.declared.Settings.{Settings}
use Rattle.convert.specs.Words.{convert_word}
use Rattle.ingress.specs.Ingress.{ingressed}
use Rattle.shinglebar.specs.Arguments.{given_of}
use Rattle.shinglebar.proofs.shinglebar_ingress.Goals as goal

pub returns : goal.returns
returns c =
    let a = c.args in
    rw c.written_word.ensures.convert
    (ap (area_as convert_word) c.ingress.ensures
    ∙ ap (λ (s : Settings). area_as convert_word (ingressed s a.map.now (given_of a.destination a.source a.m a.hops a.egress a.ingress) a.frame.now a.out.now)) c.settings-s.ensures)
