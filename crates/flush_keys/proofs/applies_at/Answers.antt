-- `flush_keys::applies_at` meets its contract.
use Rattle.flush_keys.proofs.Fields.{applies_fine, applies_mac}
use Rattle.flush_keys.proofs.applies_at.Goals as goal

pub returns-in-Fine : goal.returns-in-Fine
returns-in-Fine c = search applies_fine

pub returns-in-Mac : goal.returns-in-Mac
returns-in-Mac c = search applies_mac
