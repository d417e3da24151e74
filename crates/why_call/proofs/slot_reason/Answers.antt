-- `why_call::slot_reason` meets its contract: by what the slot holds.
use Rattle.why_call.proofs.Laws.{reason_learned, reason_free, reason_spoilt, reason_never, reason_configured}
use Rattle.why_call.proofs.slot_reason.Goals as goal

pub returns-then-learned_at : goal.returns-then-learned_at
returns-then-learned_at c = search reason_learned

pub returns-in-Free : goal.returns-in-Free
returns-in-Free c = search reason_free

pub returns-in-Spoilt : goal.returns-in-Spoilt
returns-in-Spoilt c = search reason_spoilt

pub returns-in-Learned : goal.returns-in-Learned
returns-in-Learned c = search reason_never

pub returns-in-Configured : goal.returns-in-Configured
returns-in-Configured c = search reason_configured
