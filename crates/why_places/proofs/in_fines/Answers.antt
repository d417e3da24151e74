-- `why_places::in_fines` meets its contract.
use Rattle.why_places.proofs.Laws.{fines_by_last}
use Rattle.why_places.proofs.in_fines.Goals as goal

pub in_list-requires : goal.in_list-requires
in_list-requires c = fines_by_last
