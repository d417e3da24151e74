-- `shinglebar::shinglebar_expand` meets its contract: the word of the answer, and the area that the call left.
use mathlib.Core.Path.{ap, ◌∙◌}
use Rattle.numbers.specs.After.{area_as}
use Rattle.frame.specs.declared.Settings.{Settings}
use Rattle.convert.specs.Expansion.{expanded}
use Rattle.convert.specs.Words.{convert_word}
use Rattle.shinglebar.specs.Arguments.{outer_of}
use Rattle.shinglebar.proofs.shinglebar_expand.Goals as goal

pub returns : goal.returns
returns c =
    let a = c.args in
    rw c.written_word.ensures.convert
    (ap (area_as convert_word) c.expand.ensures
    ∙ ap (λ (s : Settings). area_as convert_word (expanded s (outer_of a.source a.tagged a.tag) a.frame.now a.out.now)) c.settings-s.ensures)
