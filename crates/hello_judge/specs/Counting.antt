-- What the pieces of a payload add up to: malformed ones, and for each type of sub-TLV how many there are and how many numbers they bring
-- to the contents area.
-- Assumes nothing.
use Rattle.std.specs.Prelude.{ℕ, ◌+◌, ◌*◌, ◌/◌, ◌%◌, List, [], ◌∷◌, map, leb, eqb, length, not}
use Rattle.numbers.specs.Tests.{pick, either}
use Rattle.numbers.specs.Result.{Outcome, check, finished}
use Rattle.hello.specs.Tlvs.{Tlv, tlv, stump}
use Rattle.hello.specs.Pieces.{capability, geninfo, inside, tlv_pieces}
use Rattle.hello.specs.Contents.{Item, parameters, nicknames, trees, smart_mac, ignored, malformed}
use Rattle.hello.specs.Reading.{says}
use Rattle.hello_judge.specs.declared.Counts.{Counts}
use Rattle.numbers.specs.declared.refusals.Refusal.TheVariants.{HelloMalformed, ParametersMissing}

-- one element after the other, from a state on
unfoldable pub walked : {S A : Type 0} → (S → A → S) → S → List A → S
walked f s [] = s
walked f s (x ∷ xs) = walked f (f s x) xs

abbrev pub nothing : Counts
nothing = record { malformed = 0; parameters = 0; parameter_numbers = 0; nicknames = 0; nickname_numbers = 0; trees = 0; tree_numbers = 0; macs = 0; mac_numbers = 0 }

-- one more of each kind, with n numbers
abbrev pub add_malformed : Counts → Counts
add_malformed c =
    record { malformed = c.malformed + 1; parameters = c.parameters; parameter_numbers = c.parameter_numbers; nicknames = c.nicknames; nickname_numbers = c.nickname_numbers; trees = c.trees; tree_numbers = c.tree_numbers; macs = c.macs; mac_numbers = c.mac_numbers }

abbrev pub add_parameters : Counts → ℕ → Counts
add_parameters c n =
    record { malformed = c.malformed; parameters = c.parameters + 1; parameter_numbers = c.parameter_numbers + n; nicknames = c.nicknames; nickname_numbers = c.nickname_numbers; trees = c.trees; tree_numbers = c.tree_numbers; macs = c.macs; mac_numbers = c.mac_numbers }

abbrev pub add_nicknames : Counts → ℕ → Counts
add_nicknames c n =
    record { malformed = c.malformed; parameters = c.parameters; parameter_numbers = c.parameter_numbers; nicknames = c.nicknames + 1; nickname_numbers = c.nickname_numbers + n; trees = c.trees; tree_numbers = c.tree_numbers; macs = c.macs; mac_numbers = c.mac_numbers }

abbrev pub add_trees : Counts → ℕ → Counts
add_trees c n =
    record { malformed = c.malformed; parameters = c.parameters; parameter_numbers = c.parameter_numbers; nicknames = c.nicknames; nickname_numbers = c.nickname_numbers; trees = c.trees + 1; tree_numbers = c.tree_numbers + n; macs = c.macs; mac_numbers = c.mac_numbers }

abbrev pub add_macs : Counts → ℕ → Counts
add_macs c n =
    record { malformed = c.malformed; parameters = c.parameters; parameter_numbers = c.parameter_numbers; nicknames = c.nicknames; nickname_numbers = c.nickname_numbers; trees = c.trees; tree_numbers = c.tree_numbers; macs = c.macs + 1; mac_numbers = c.mac_numbers + n }

-- one piece more: a list is behind its count, a nickname has three numbers, a starting tree number is one, F, M and label are three
unfoldable pub counting : Counts → Item → Counts
counting c (parameters p) = add_parameters c 2
counting c (nicknames r) = add_nicknames c (1 + 3 * length r)
counting c (trees t) = add_trees c (2 + length t.nicknames)
counting c (smart_mac m) = add_macs c (4 + length m.macs)
counting c ignored = c
counting c malformed = add_malformed c

-- a sub-TLV inside h, and a TLV
unfoldable pub sub_counting : ℕ → Counts → Tlv → Counts
sub_counting h c t = counting c (says (inside h t))

unfoldable pub tlv_counting : Counts → Tlv → Counts
tlv_counting c t = walked counting c (map says (tlv_pieces t))

-- all counts together
abbrev pub total : Counts → ℕ
total c = c.malformed + (c.parameters + (c.parameter_numbers + (c.nicknames + (c.nickname_numbers + (c.trees + (c.tree_numbers + (c.macs + c.mac_numbers)))))))

-- TLVs behind those in front that are empty and hold no sub-TLVs
unfoldable pub past_empty : List Tlv → List Tlv
past_empty [] = []
past_empty (tlv k [] ∷ ts) = pick (either (eqb k capability) (eqb k geninfo)) (tlv k [] ∷ ts) (past_empty ts)
past_empty (tlv k (b ∷ v) ∷ ts) = tlv k (b ∷ v) ∷ ts
past_empty (stump ∷ ts) = stump ∷ ts

-- what reading is refused with: 25 a malformed piece, 25 Smart-Parameters twice, 26 none
unfoldable pub refusal_for : Counts → Outcome (Unit {0})
refusal_for c =
    check (not (leb 1 c.malformed)) HelloMalformed
    (check (leb c.parameters 1) HelloMalformed
    (check (leb 1 c.parameters) ParametersMissing
    finished))

abbrev pub head_from : ℕ → ℕ
head_from f = 3 + (4 * (f / 4 % 2) + 16 * (f / 8 % 2))
