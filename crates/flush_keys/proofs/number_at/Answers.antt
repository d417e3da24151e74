-- `flush_keys::number_at` meets its contract.
use Rattle.flush_keys.proofs.Fields.{number_fine, number_mac}
use Rattle.flush_keys.proofs.number_at.Goals as goal

pub returns-in-Fine : goal.returns-in-Fine
returns-in-Fine c = number_fine _ _ _ c.in-Fine.is c.label_at.ensures

pub returns-in-Mac : goal.returns-in-Mac
returns-in-Mac c = number_mac _ _ _ c.in-Mac.is c.mac_at.ensures
