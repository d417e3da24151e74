-- `frame_parse::parse` meets its contract: each way out is an outcome of the definition.
use Rattle.frame_parse.proofs.Outcomes.{reads_refused, reads_as, too_short, too_long, not_here, compact_off, compact_on_lem, to_port, to_all}
use Rattle.frame_parse.proofs.parse.Goals as goal

pub returns-then-n-lt-SHORTEST_FRAME : goal.returns-then-n-lt-SHORTEST_FRAME
returns-then-n-lt-SHORTEST_FRAME c = reads_refused _ _ _ (search too_short)

pub returns-then-n-gt-LONGEST_FRAME : goal.returns-then-n-gt-LONGEST_FRAME
returns-then-n-gt-LONGEST_FRAME c = reads_refused _ _ _ (search too_long)

pub returns-then-s-eq-COMPACT_ON : goal.returns-then-s-eq-COMPACT_ON
returns-then-s-eq-COMPACT_ON c = search (reads_as, compact_on_lem)

pub returns-in-Unicast : goal.returns-in-Unicast
returns-in-Unicast c = search (reads_as, to_port)

pub returns-in-Multicast : goal.returns-in-Multicast
returns-in-Multicast c = search (reads_as, to_all)

pub returns-in-Refused : goal.returns-in-Refused
returns-in-Refused c = reads_refused _ _ _ (search not_here)

pub returns-else-s-eq-COMPACT_ON : goal.returns-else-s-eq-COMPACT_ON
returns-else-s-eq-COMPACT_ON c = reads_refused _ _ _ (search compact_off)
