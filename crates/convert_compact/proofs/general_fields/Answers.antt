-- `convert_compact::general_fields` meets its contract: each way out is an outcome of the definition.
use Rattle.frame_parse.proofs.Outcomes.{reads_refused, reads_as}
use Rattle.convert_compact.proofs.Laws.{too_short, too_long, to_us, not_here, compact_front}
use Rattle.convert_compact.proofs.general_fields.Goals as goal

pub returns-then-n-lt-SHORTEST_FRAME : goal.returns-then-n-lt-SHORTEST_FRAME
returns-then-n-lt-SHORTEST_FRAME c = reads_refused _ _ _ (search too_short)

pub returns-then-n-gt-LONGEST_FRAME : goal.returns-then-n-gt-LONGEST_FRAME
returns-then-n-gt-LONGEST_FRAME c = reads_refused _ _ _ (search too_long)

pub returns-in-Unicast : goal.returns-in-Unicast
returns-in-Unicast c = search (reads_as, to_us)

pub returns-in-Refused : goal.returns-in-Refused
returns-in-Refused c = reads_refused _ _ _ (search not_here)

pub returns-in-Inner : goal.returns-in-Inner
returns-in-Inner c = reads_refused _ _ _ (search compact_front)
