-- `why_call::learned_reason` meets its contract: set by set, the first that does not mean the entry decides.
use Rattle.table.specs.Record.{entry_of}
use Rattle.why_call.proofs.Laws.{label_same, reason_nickname, reason_label, reason_mac, reason_cleared}
use Rattle.why_call.proofs.learned_reason.Goals as goal

pub returns-in_default : goal.returns-in_default
unfolding entry_of
returns-in_default c = search reason_nickname

pub returns-in_default-label_found : goal.returns-in_default-label_found
unfolding entry_of
returns-in_default-label_found c = search (reason_label, label_same)

pub returns-in_default-mac_found : goal.returns-in_default-mac_found
unfolding entry_of
returns-in_default-mac_found c = search (reason_mac, label_same)

pub returns : goal.returns
unfolding entry_of
returns c = search (reason_cleared, label_same)
