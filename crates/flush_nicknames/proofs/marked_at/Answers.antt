-- `flush_nicknames::marked_at` meets its contract: another byte of the nickname, another label, another nickname, or whether it is learned.
use Rattle.flush_nicknames.proofs.First.{other_label_lem, ruled_out, not_passed, by_passed}
use Rattle.flush_nicknames.proofs.marked_at.Goals as goal

pub returns-then-rules_out : goal.returns-then-rules_out
returns-then-rules_out g c = ruled_out _ _ _ _ _ c.rules_out.ensures c.if-rules_out.true

pub returns-then-not-passes : goal.returns-then-not-passes
returns-then-not-passes g c = other_label_lem _ _ _ _ _ c.passes.ensures c.if-not-passes.true

pub returns-then-not-has : goal.returns-then-not-has
returns-then-not-has g c = not_passed _ _ _ _ _ c.nickname_at.ensures.0 _ c.has.ensures c.if-not-has.true

pub returns : goal.returns
returns g c = by_passed _ _ _ _ _ c.nickname_at.ensures.0 _ c.has.ensures c.if-not-has.false _ c.passes.ensures c.if-not-passes.false _ c.learned_at.ensures
