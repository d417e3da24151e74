-- `flush_payload::judge` meets its contract: each way out is a test of the definition, in its order.
use Rattle.flush_payload.proofs.Judging.{judged_short, judged_nicks, judged-cut, judged_blocks, judged-tlvs}
use Rattle.flush_payload.proofs.judge.Goals as goal

pub returns-then-p-lt2 : goal.returns-then-p-lt2
returns-then-p-lt2 c = search judged_short

pub returns-then-p-s : goal.returns-then-p-s
returns-then-p-s c = search judged_nicks

pub returns-then-p-s-2 : goal.returns-then-p-s-2
returns-then-p-s-2 c = search judged-cut

pub returns-then-blocks-ne0 : goal.returns-then-blocks-ne0
returns-then-blocks-ne0 c = search judged_blocks

pub returns : goal.returns
returns c = search judged-tlvs
