-- `flush_payload::judge_tlvs` meets its contract. The invariant: what is corrupt is left, and a kind is there exactly if it was noted or
-- is left.
use Prim.Native.Nat.{◌-◌}
use Rattle.flush_payload.proofs.Judging.{walk_start, walk_done, walk_padding, walk_cut, walk_skip, walk_bad, walk_next, walk_passed}
use Rattle.flush_payload.proofs.judge_tlvs.Goals as goal

pub loop-at-init : goal.loop-at-init
loop-at-init c = search walk_start

pub returns-then-is_padding : goal.returns-then-is_padding
returns-then-is_padding c = search walk_padding

pub returns-then-l-e : goal.returns-then-l-e
returns-then-l-e c = search walk_cut

pub returns-then-not-length_good : goal.returns-then-not-length_good
returns-then-not-length_good c = search walk_bad

pub loop-at-preserved-then-ruled_type : goal.loop-at-preserved-then-ruled_type
loop-at-preserved-then-ruled_type c = search walk_next

pub loop-at-preserved : goal.loop-at-preserved
loop-at-preserved c = search (walk_passed, walk_skip)

pub returns : goal.returns
returns c = search walk_done
