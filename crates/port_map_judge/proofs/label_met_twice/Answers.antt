-- `port_map_judge::label_met_twice` meets its contract: a label that is not doubtful stands nowhere there.
use Rattle.port_map_judge.specs.Meaning.{labels_in}
use lib.ListN.{drop}
use Rattle.port_map_judge.proofs.label_met_twice.Goals as goal

pub returns-then-not-is_doubtful : goal.returns-then-not-is_doubtful
returns-then-not-is_doubtful c =
    c.is_doubtful.ensures (labels_in (drop c.args.from c.args.map.now)) c.requires.1.1.0 c.requires.1.1.1 c.if-not-is_doubtful.true
