-- `flush_call::clear_by_marks` meets its contract: the marked slots are those that are meant.
use Rattle.flush_marks.proofs.Bits.{zeros_unmarked}
use Rattle.flush_call.proofs.Calls.{range_swept}
use Rattle.flush_call.proofs.clear_by_marks.Goals as goal

pub mark_meant-examined-requires : goal.mark_meant-examined-requires
mark_meant-examined-requires c = (record { within = c.requires.0; empty = zeros_unmarked }, c.requires.1)

pub returns : goal.returns
returns c = range_swept _ _ _ _ _ c.requires.0 _ c.mark_meant-examined.ensures _ _ c.clear_marked-cleared.ensures
