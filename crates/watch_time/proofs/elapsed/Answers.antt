-- `watch_time::elapsed` meets its contract: the wrapped difference of the readings is the definition's, below 2^31 and from there on.
use Rattle.watch_time.proofs.Laws.{passed_on, passed_back}
use Rattle.watch_time.proofs.elapsed.Goals as goal

pub returns-then-seconds-lt-CLOCK_GONE_BACK : goal.returns-then-seconds-lt-CLOCK_GONE_BACK
returns-then-seconds-lt-CLOCK_GONE_BACK c = search passed_on

pub returns : goal.returns
returns c = search passed_back
