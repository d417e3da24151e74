-- `replay::read_mapped` meets its contract: the label of what is delivered fits its word.
use mathlib.Core.Path.{sym, ap, subst}
use Rattle.numbers.specs.After.{OnBoth}
use Rattle.receive.proofs.Outcomes.{read_fits}
use Rattle.receive.specs.declared.ReadAnswer.{ReadAnswer}
use Rattle.receive.specs.Words.{LabelFits}
use Rattle.replay.proofs.read_mapped.Goals as goal
use Rattle.numbers.specs.Result.{Outcome}

pub read_word-requires : goal.read_word-requires
read_word-requires g c = subst LabelFits (sym (ap (λ (x : OnBoth (Outcome ReadAnswer)). x.answer) c.read_pairs-a.ensures)) (read_fits _ _ _ _ _)
