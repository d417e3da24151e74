-- `convert_expand::compact_fields` meets its contract: each way out is an outcome of the definition.
use Rattle.frame_parse.proofs.Outcomes.{reads_refused, reads_as}
use Rattle.convert_expand.proofs.Laws.{bad_outer, bad_lengths, address_there, addresses_there, not_long, to_port, to_all, not_here, compact_front}
use Rattle.convert_expand.proofs.compact_fields.Goals as goal

pub returns-then-not-outer_good : goal.returns-then-not-outer_good
returns-then-not-outer_good c = reads_refused _ _ _ (search bad_outer)

pub returns-then-not-lengths_good : goal.returns-then-not-lengths_good
returns-then-not-lengths_good c = reads_refused _ _ _ (search bad_lengths)

pub be6-requires : goal.be6-requires
be6-requires c = search address_there

pub compact_parts-requires : goal.compact_parts-requires
compact_parts-requires c = (search addresses_there, search not_long)

pub returns-in-Unicast : goal.returns-in-Unicast
returns-in-Unicast c = reads_refused _ _ _ (search to_port)

pub returns-in-Multicast : goal.returns-in-Multicast
returns-in-Multicast c = reads_refused _ _ _ (search to_all)

pub returns-in-Refused : goal.returns-in-Refused
returns-in-Refused c = reads_refused _ _ _ (search not_here)

pub returns-in-Inner : goal.returns-in-Inner
returns-in-Inner c = search (reads_as, compact_front)
