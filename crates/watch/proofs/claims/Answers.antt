-- What `watch::claims` ensures is proved in the modules beside.
use Rattle.watch.proofs.Stops.{stop_never_shortened, stop_runs_out, watch_cases}
use Rattle.watch.proofs.Sends.{sending_while_stopped, refused_watch_stays}
use Rattle.watch.proofs.claims.Goals as goal

pub returns : goal.returns
returns c = (stop_never_shortened, stop_runs_out, sending_while_stopped, refused_watch_stays, watch_cases)
