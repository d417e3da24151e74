-- What `hello_area::claims` ensures is proved in the modules beside.
use Rattle.hello_area.proofs.Whole.{entries_are}
use Rattle.hello_area.proofs.claims.Goals as goal

pub returns : goal.returns
returns c = entries_are
