-- `why_places::empty_at` meets its contract: no TLV, not empty, or by its type.
use Rattle.why_places.proofs.Laws.{not_empty, empty_other}
use Rattle.why_places.proofs.empty_at.Goals as goal

pub returns-then-l-at-lt2 : goal.returns-then-l-at-lt2
returns-then-l-at-lt2 c = search not_empty

pub returns-then-l-at-ne0 : goal.returns-then-l-at-ne0
returns-then-l-at-ne0 c = search not_empty

pub returns : goal.returns
returns c = search empty_other
