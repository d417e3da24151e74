-- What `hello::claims` ensures is proved in the modules beside.
use Rattle.hello.proofs.Worked.{cases_hold}
use Rattle.hello.proofs.RoundTrip.{written_hello_reads}
use Rattle.hello.proofs.Bounds.{read_is_writable}
use Rattle.hello.proofs.Saying.{read_hello_writes}
use Rattle.hello.proofs.Written.{written_are_bytes}
use Rattle.hello.proofs.Exact.{written_is_plain}
use Rattle.hello.proofs.Areas.{area_is}
use Rattle.hello.proofs.Calls.{calls_undo, hello_refusal}
use Rattle.hello.proofs.claims.Goals as goal

pub returns : goal.returns
returns c = (cases_hold, written_hello_reads, read_is_writable, read_hello_writes, written_are_bytes, written_is_plain, area_is, calls_undo, hello_refusal)
