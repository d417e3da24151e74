-- `flush_nicknames::mark_several` meets its contract: the slots before the first that has a nickname of the set, and those from there on.
use Rattle.flush_marks.proofs.Bits.{zeros_none}
use Rattle.flush_nicknames.specs.First.{name_bytes}
use Rattle.flush_nicknames.proofs.First.{passed_first, listed_same}
use Rattle.flush_nicknames.proofs.mark_several.Goals as goal

pub returns : goal.returns
returns c = (c.mark_found.ensures.0, passed_first _ _ (λ x few. listed_same _ _ _ (zeros_none name_bytes) c.add_nicknames.ensures x) _ _ _ _ _ _ c.first_by_rounds-k.ensures _ c.mark_found.ensures.1)
