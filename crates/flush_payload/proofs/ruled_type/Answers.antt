-- `flush_payload::ruled_type` meets its contract, model by model.
use Rattle.flush_payload.proofs.Judging.{ruled_full, ruled_small}
use Rattle.flush_payload.proofs.ruled_type.Goals as goal

pub returns-in-Full : goal.returns-in-Full
returns-in-Full c = rw c.in-Full.is (ruled_full _)

pub returns-in-VlanOnly : goal.returns-in-VlanOnly
returns-in-VlanOnly c = rw c.in-VlanOnly.is (ruled_small _)
