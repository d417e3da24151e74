-- `convert_expand::lengths_good` meets its contract: the result is no shorter than the frame, so its upper end is enough.
use Rattle.numbers.specs.Tests.{both}
use Rattle.convert_expand.proofs.Laws.{lengths_same}
use Rattle.convert_expand.proofs.lengths_good.Goals as goal

pub returns : goal.returns
unfolding both
returns c = lengths_same c.args.n c.args.more c.requires
