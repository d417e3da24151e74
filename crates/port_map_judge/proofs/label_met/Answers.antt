-- `port_map_judge::label_met` meets its contract: a label whose bit is not set stands nowhere there.
use Rattle.port_map_judge.proofs.Laws.{not_met}
use Rattle.port_map_judge.proofs.label_met.Goals as goal

pub returns-then-not-has : goal.returns-then-not-has
returns-then-not-has c =
    not_met c.args.l c.args.map.now c.args.from c.args.met.now c.requires.1.1 _ c.has.ensures c.if-not-has.true
