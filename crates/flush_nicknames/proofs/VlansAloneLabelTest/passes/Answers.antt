-- Every label passes, or a VLAN of the set.
use Rattle.flush_nicknames.proofs.First.{plain_every, plain_vlans}
use Rattle.flush_nicknames.proofs.VlansAloneLabelTest.passes.Goals as goal

pub returns-then-self : goal.returns-then-self
returns-then-self c = plain_every _ _ c.args.self.meant _ c.if-self.true

pub returns : goal.returns
returns c = plain_vlans _ _ c.args.self.meant _ c.if-self.false _ c.kind_at-vlan.ensures _ c.label_at-x.ensures _ c.has-meant.ensures
