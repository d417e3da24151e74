-- `frame_fields::multicast_agrees` meets its contract: case by case.
use Rattle.frame_fields.proofs.multicast_agrees.Goals as goal

pub returns-in-Unicast : goal.returns-in-Unicast
returns-in-Unicast c = rw (c.in-Unicast.is, ← c.multicast-m.ensures)

pub returns-in-Multicast : goal.returns-in-Multicast
returns-in-Multicast c = rw (c.in-Multicast.is, ← c.multicast-m.ensures)
