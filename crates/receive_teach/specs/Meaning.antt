-- The entry learned of a frame from its values, and what it teaches.
-- Assumes nothing.
use Rattle.std.specs.Prelude.{ℕ, Bool, List, eqb}
use Rattle.numbers.specs.Tests.{pick}
use Rattle.numbers.specs.After.{OnTable, on_table}
use Rattle.table.specs.Learning.{learnt}
use Rattle.table.specs.declared.Entry.{Entry}
use Rattle.table.specs.declared.Label.{Label}
use Rattle.table.specs.declared.Learning.{Learning}
use Rattle.table.specs.declared.Learning.TheVariants.{Kept}
use Rattle.frame.specs.Settings.{life_of, default_life}
use Rattle.frame.specs.declared.Settings.{Settings}

-- `learned_entry` of a frame whose label, source, ingress nickname and mark are these
abbrev pub learned_of : Settings → Label → ℕ → ℕ → Bool → Entry
learned_of s label mac nickname mark =
    record { label = label; mac = mac; nickname = nickname; confidence = s.confidence; seconds = life_of default_life s; multihomed = mark }

-- `taught` of an entry, our own nickname being the number own
unfoldable pub taught_of : ℕ → Entry → List ℕ → OnTable Learning
taught_of own e t = pick (eqb e.nickname own) (on_table Kept t) (learnt e t)
