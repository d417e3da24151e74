-- `shinglebar::shinglebar_compact` meets its contract: the word of the answer, and the area that the call left.
use mathlib.Core.Path.{ap, ◌∙◌}
use Rattle.numbers.specs.After.{area_as}
use Rattle.frame.specs.declared.Settings.{Settings}
use Rattle.convert.specs.Compaction.{compacted}
use Rattle.convert.specs.Words.{convert_word}
use Rattle.shinglebar.proofs.shinglebar_compact.Goals as goal

pub returns : goal.returns
returns c =
    let a = c.args in
    rw c.written_word.ensures.convert
    (ap (area_as convert_word) c.compact.ensures
    ∙ ap (λ (s : Settings). area_as convert_word (compacted s a.frame.now a.out.now)) c.settings-s.ensures)
