-- A fine-grained label with its bit; no VLAN.
use Rattle.flush_nicknames.proofs.First.{part_fine}
use Rattle.flush_nicknames.proofs.FinesAloneLabelTest.passes.Goals as goal

pub returns : goal.returns
returns c = part_fine _ _ _ c.kind_at-fine.ensures _ c.label_at.ensures _ c.may_be_meant-maybe.ensures
