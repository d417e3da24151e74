-- `flush_write_call::flush_length` meets its contract: the sum of each form.
use Rattle.flush_write_call.proofs.Laws.{block_length, tlv_length_lem}
use Rattle.flush_write_call.proofs.flush_length.Goals as goal

pub returns-then-fines-macs : goal.returns-then-fines-macs
returns-then-fines-macs c = search block_length

pub returns : goal.returns
returns c = search tlv_length_lem
