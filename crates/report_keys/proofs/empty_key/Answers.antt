-- `report_keys::empty_key` meets its contract.
use mathlib.Core.Path.{refl}
use Rattle.numbers.proofs.Steps.{pick_first, pick_second}
use borrow.Author.Rules.{rules}
use Rattle.report_keys.proofs.empty_key.Goals as goal

pub returns-then-free : goal.returns-then-free
returns-then-free c = (pick_first _ _ _ _ c.if-free.true refl, search rules)

pub returns-else-free : goal.returns-else-free
returns-else-free c = (pick_second _ _ _ _ c.if-free.false refl, search rules)
