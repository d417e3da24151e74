-- The kind of the label decides.
use Rattle.flush_nicknames.proofs.First.{part_bits}
use Rattle.flush_nicknames.proofs.AnyKindLabelTest.passes.Goals as goal

pub returns : goal.returns
returns c = part_bits _ _ _ _ c.kind_at-vlan.ensures _ c.label_at-x.ensures _ c.has-meant.ensures _ c.may_be_meant-maybe.ensures
