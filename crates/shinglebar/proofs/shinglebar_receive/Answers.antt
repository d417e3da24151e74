-- `shinglebar::shinglebar_receive` meets its contract: the word of the answer, and both areas as reading left them.
use Rattle.receive.proofs.Outcomes.{read_fits}
use Rattle.receive.specs.declared.ReadAnswer.{ReadAnswer}
use Rattle.frame.specs.declared.Settings.{Settings}
use Rattle.receive.specs.Receive.{received}
use Rattle.receive.specs.Words.{read_word, LabelFits}
use Rattle.numbers.specs.After.{OnBoth, both_as}
use mathlib.Core.Path.{sym, ap, subst, ◌∙◌}
use Rattle.shinglebar.proofs.shinglebar_receive.Goals as goal
use Rattle.numbers.specs.Result.{Outcome}

pub read_word-requires : goal.read_word-requires
unfolding received
read_word-requires c = subst LabelFits (sym (ap (λ (x : OnBoth (Outcome ReadAnswer)). x.answer) c.receive.ensures)) (read_fits _ _ _ _ _)

pub returns : goal.returns
returns c =
    let a = c.args in
    rw c.read_word.ensures
    (ap (both_as read_word) c.receive.ensures
    ∙ ap (λ (s : Settings). both_as read_word (received s a.frame.now a.table.now a.out.now)) c.settings-s.ensures)
