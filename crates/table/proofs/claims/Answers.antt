-- What `table::claims` ensures is proved in the modules beside.
use Rattle.table.proofs.FreeSlot.{free_slot-found}
use Rattle.table.proofs.Packing.{unpack_packed, pack_unpacked}
use Rattle.table.proofs.Refusals.{kept_writes_nothing, ageing_refusal}
use Rattle.table.proofs.Stays.{learning_leaves_alone, ageing_leaves_alone}
use Rattle.table.proofs.Apart.{learning_apart}
use Rattle.table.proofs.Ageing.{ageing_apart}
use Rattle.table.proofs.Widening.{widened_same, widening_refusal}
use Rattle.table.proofs.Before.{unmarked_as_before}
use Rattle.table.proofs.Examples.{homes_examples}
use Rattle.table.proofs.claims.Goals as goal

pub returns : goal.returns
returns c = (unpack_packed, pack_unpacked, learning_apart, ageing_apart, kept_writes_nothing, ageing_refusal, widening_refusal, learning_leaves_alone, ageing_leaves_alone, widened_same, unmarked_as_before, homes_examples, free_slot-found)
