-- What `flush::claims` ensures is proved in the modules beside.
use Rattle.flush.proofs.Validity.{validity}
use Rattle.flush.proofs.Padding.{padded_flush}
use Rattle.flush.proofs.Flushing.{flush_exact, flushing_keeps_apart, flush_refusal}
use Rattle.flush.proofs.Stays.{flushing_leaves_alone}
use Rattle.flush.proofs.claims.Goals as goal

pub returns : goal.returns
returns c = (validity, padded_flush, flush_exact, flushing_keeps_apart, flush_refusal, flushing_leaves_alone)
