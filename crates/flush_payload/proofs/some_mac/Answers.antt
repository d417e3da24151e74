-- `flush_payload::some_mac` meets its contract: blocks gather no MAC.
use Rattle.flush_payload.proofs.Laws.{of_tlvs, blocks_gather}
use Rattle.flush_payload.proofs.some_mac.Goals as goal

pub returns-then-blocks-ne0 : goal.returns-then-blocks-ne0
returns-then-blocks-ne0 c = search blocks_gather

pub returns : goal.returns
returns c = search of_tlvs
