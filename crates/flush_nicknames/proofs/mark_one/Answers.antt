-- `flush_nicknames::mark_one` meets its contract: the slots before the first that has the nickname, and those from there on.
use mathlib.Core.Path.{refl}
use Rattle.flush_nicknames.proofs.First.{passed_first}
use Rattle.flush_nicknames.proofs.mark_one.Goals as goal

pub returns : goal.returns
returns c = (c.mark_found.ensures.0, passed_first _ _ (λ x few. refl) _ _ _ _ _ _ c.first_named-k.ensures _ c.mark_found.ensures.1)
