-- `flush_payload::is_padding` meets its contract: one byte is left, and it is 0.
use Rattle.flush_payload.proofs.Judging.{padding_at}
use Rattle.flush_payload.proofs.is_padding.Goals as goal

pub returns : goal.returns
returns c = search padding_at
