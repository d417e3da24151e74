-- `flush_payload::mac_meant` meets its contract: every MAC, or those that some TLV brings.
use Rattle.flush_payload.proofs.Laws.{every_mac, that_mac}
use Rattle.flush_payload.proofs.mac_meant.Goals as goal

pub returns-then-not-gathered : goal.returns-then-not-gathered
returns-then-not-gathered c = search every_mac

pub returns : goal.returns
returns c = search that_mac
