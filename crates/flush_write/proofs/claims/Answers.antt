-- What `flush_write::claims` ensures is proved in the modules beside.
use Rattle.flush_write.proofs.Worked.{writer_cases}
use Rattle.flush_write.proofs.Exact.{writer_exact}
use Rattle.flush_write.proofs.Clears.{writer_clears}
use Rattle.flush_write.proofs.Bounds.{writer_length}
use Rattle.flush_write.proofs.Calls.{writer_calls}
use Rattle.flush_write.proofs.claims.Goals as goal

pub returns : goal.returns
returns c = (writer_cases, writer_exact, writer_clears, writer_length, writer_calls)
