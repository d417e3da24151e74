-- `flush_filters::naming_of` meets its contract.
use Rattle.flush_filters.proofs.Laws.{naming_fine, naming_mac}
use Rattle.flush_filters.proofs.naming_of.Goals as goal

pub returns-in-Fine : goal.returns-in-Fine
returns-in-Fine c = naming_fine _ c.in-Fine.is _ c.fine_naming.ensures

pub returns-in-Mac : goal.returns-in-Mac
returns-in-Mac c = search naming_mac
