-- `why_places::in_macs` meets its contract.
use Rattle.why_places.proofs.Laws.{macs_by_last}
use Rattle.why_places.proofs.in_macs.Goals as goal

pub in_list-requires : goal.in_list-requires
in_list-requires c = macs_by_last
