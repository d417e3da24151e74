-- `port_map_pairs::judged` meets its contract: each branch by its test.
use mathlib.Core.Path.{sym, ◌∙◌}
use Rattle.numbers.proofs.Steps.{both_fails, both-goes_on}
use Rattle.port_map_pairs.specs.Scan.{judged_of}
use Rattle.port_map_pairs.proofs.judged.Goals as goal

pub returns-then-alone : goal.returns-then-alone
unfolding judged_of
returns-then-alone c = both-goes_on _ _ _ (sym c.alone.ensures ∙ c.if-alone.true) c.numbers_good.ensures

pub returns : goal.returns
unfolding judged_of
returns c = both_fails _ _ (sym c.alone.ensures ∙ c.if-alone.false)
