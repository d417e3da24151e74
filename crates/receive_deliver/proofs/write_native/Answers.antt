-- `receive_deliver::write_native` meets its contract: each part is copied right after the one before.
use Rattle.receive_deliver.proofs.Laws.{native_written_lem}
use Rattle.receive_deliver.proofs.write_native.Goals as goal

pub returns : goal.returns
returns c = search native_written_lem
