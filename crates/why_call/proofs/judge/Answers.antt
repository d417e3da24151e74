-- `why_call::judge` meets its contract: VLAN blocks by their count, TLVs as the flush judges them.
use Rattle.flush_payload.proofs.Judging.{judged_short, judged_nicks, judged-cut, judged_blocks}
use Rattle.why_call.proofs.Laws.{blocks_alone}
use Rattle.why_call.proofs.judge.Goals as goal

pub returns-then-payload-lt2 : goal.returns-then-payload-lt2
returns-then-payload-lt2 c = search judged_short

pub returns-then-payload-s : goal.returns-then-payload-s
returns-then-payload-s c = search judged_nicks

pub returns-then-payload-s-2 : goal.returns-then-payload-s-2
returns-then-payload-s-2 c = search judged-cut

pub returns : goal.returns
returns c = search (judged_blocks, blocks_alone)
