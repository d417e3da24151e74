-- `port_map_one::pair_for_label` meets its contract: what was found, or not.
use Rattle.port_map_one.proofs.pair_for_label.Goals as goal

pub returns-in-None : goal.returns-in-None
returns-in-None c = rw (c.in-None.is, c.other_label-other.ensures)

pub returns-in-Some : goal.returns-in-Some
returns-in-Some c = rw c.in-Some.is
