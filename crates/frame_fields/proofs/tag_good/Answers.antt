-- `frame_fields::tag_good` meets its contract: the low 12 bits.
use mathlib.Core.Path.{ap, ◌∙◌}
use Rattle.numbers.specs.Ranges.{vlan_good}
use Rattle.frame_fields.proofs.tag_good.Goals as goal

pub returns : goal.returns
returns c = c.vlan_good.ensures ∙ ap vlan_good c.label_part.ensures.0
