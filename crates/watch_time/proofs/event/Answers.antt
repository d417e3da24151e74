-- `watch_time::event` meets its contract: an unknown kind is refused, and any other prolongs the stop that is left after the reading.
use Rattle.watch_time.proofs.Laws.{event_unknown, event_known}
use Rattle.watch_time.proofs.event.Goals as goal

pub returns-then-kind-gt-LLDP_NOTICE : goal.returns-then-kind-gt-LLDP_NOTICE
returns-then-kind-gt-LLDP_NOTICE c = search event_unknown

pub returns : goal.returns
returns c = search event_known
