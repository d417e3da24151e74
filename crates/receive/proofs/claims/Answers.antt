-- What `receive::claims` ensures is proved in the modules beside.
use Rattle.receive.proofs.Outcomes.{read_refusal, reading-apart, reads_parsed, reading_leaves_alone, read_flush_exact}
use Rattle.receive.proofs.Padded.{padded_read}
use Rattle.receive.proofs.Order.{reads_exactly}
use Rattle.receive.proofs.NoMap.{no_map_no_change}
use Rattle.receive.proofs.Smart.{smart_port}
use Rattle.receive.proofs.claims.Goals as goal

pub returns : goal.returns
returns c = (read_refusal, reading-apart, reads_parsed, reading_leaves_alone, read_flush_exact, padded_read, reads_exactly, no_map_no_change, smart_port)
