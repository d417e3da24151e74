-- The pairs one after the other: what a pair answers, the first answer, and a good pair beside those after it.
-- Assumes nothing.
use Rattle.std.specs.Prelude.{ℕ, ◌+◌, Bool, true, false, List, [], ◌∷◌, Option, Some, None, eqb, ltb, get_or, drop}
use Rattle.numbers.specs.Tests.{pick, both, either}
use Rattle.numbers.specs.Ranges.{vlan_good}
use Rattle.port_map.specs.Maps.{port_vlan, campus_label, fine_good}
use Rattle.port_map.specs.declared.PortVlan.{PortVlan}
use Rattle.port_map.specs.declared.CampusLabel.{CampusLabel}
use Rattle.port_map_pairs.specs.declared.MapPair.{MapPair}
use Rattle.port_map_pairs.specs.declared.Found.{Found}
use Rattle.port_map_pairs.specs.declared.Found.TheVariants.{Nothing, Vlan, Label, Twin}
use Rattle.port_map_pairs.specs.declared.Question.{Question}
use Rattle.port_map_pairs.specs.declared.Question.TheVariants.{VlanOf, LabelOf, TwinOf}

-- what a place past the end of a list is read as
abbrev pub blank : MapPair
blank = record { vlan = port_vlan 0; label = campus_label 0 }

-- the VLAN or the label of one is that of the other
abbrev pub are_twins : MapPair → MapPair → Bool
are_twins t p = either (eqb t.vlan.0 p.vlan.0) (eqb t.label.0 p.label.0)

-- what a pair answers to a question
unfoldable pub asked_of : Question → MapPair → Found
asked_of (VlanOf w) p = pick (eqb p.label.0 w.0) (Vlan p.vlan) Nothing
asked_of (LabelOf w) p = pick (eqb p.vlan.0 w.0) (Label p.label) Nothing
asked_of (TwinOf t) p = pick (are_twins t p) Twin Nothing

-- the first of two answers
abbrev pub or_else : Found → Found → Found
or_else Nothing g = g
or_else (Vlan v) g = Vlan v
or_else (Label l) g = Label l
or_else Twin g = Twin

-- the answer of the first pair that has one
unfoldable pub scanned : Question → List MapPair → Found
scanned q [] = Nothing
scanned q (p ∷ l) = or_else (asked_of q p) (scanned q l)

abbrev pub is_nothing : Found → Bool
is_nothing Nothing = true
is_nothing (Vlan v) = false
is_nothing (Label l) = false
is_nothing Twin = false

-- the search goes on while nothing is found and a pair is left
unfoldable pub goes_on : Found → ℕ → ℕ → Bool
goes_on f i n = both (is_nothing f) (ltb i n)

-- what is found, as the answer of a search
abbrev pub vlan_in : Found → Option PortVlan
vlan_in Nothing = None
vlan_in (Vlan v) = Some v
vlan_in (Label l) = None
vlan_in Twin = None

abbrev pub label_in : Found → Option CampusLabel
label_in Nothing = None
label_in (Vlan v) = None
label_in (Label l) = Some l
label_in Twin = None

abbrev pub numbers_good : MapPair → Bool
numbers_good p = both (vlan_good p.vlan.0) (fine_good p.label.0)

-- a pair is good: no twin is found, and its numbers
unfoldable pub judged_of : MapPair → Found → Bool
judged_of p f = both (is_nothing f) (numbers_good p)

-- the pair at an index, beside the pairs after it
unfoldable pub good_at : List MapPair → ℕ → Bool
good_at l i = judged_of (get_or l i blank) (scanned (TwinOf (get_or l i blank)) (drop (i + 1) l))

-- each pair beside those after it
unfoldable pub good_map : List MapPair → Bool
good_map [] = true
good_map (p ∷ l) = both (judged_of p (scanned (TwinOf p) l)) (good_map l)
