-- The label that a frame asks of a map.
-- Assumes nothing.
use Rattle.std.specs.Prelude.{ℕ, false, List, ◌≡◌, Ok}
use Rattle.frame.specs.Fields.{Fields}
use Rattle.frame.specs.Formats.{parsed}
use Rattle.frame.specs.Labels.{is_tag}
use Rattle.frame.specs.declared.Settings.{Settings}
use Rattle.port_map.specs.declared.CampusLabel.{CampusLabel}
use Rattle.receive.specs.Delivering.{fine_in}

-- l is the fine-grained label of the frame f, where it has one
abbrev pub LabelAsked : Settings → List ℕ → CampusLabel → Type 0
LabelAsked s f l = (p : Fields) → parsed s f ≡ Ok p → is_tag p.label ≡ false → l ≡ fine_in p.label
