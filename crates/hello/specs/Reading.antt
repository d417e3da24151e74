-- Reading a Smart-Hello: what each piece says, refusals 25 and 26, contents.
-- Assumes nothing.
use Rattle.std.specs.Prelude.{ℕ, ◌-◌, ◌/◌, ◌%◌, ◌^◌, Bool, true, false, not, leb, eqb, length, take, drop, Ok, Err}
use mathlib.Core.List.{List, [], ◌∷◌, map, flat_map}
use Rattle.numbers.specs.Tests.{pick, both, any_of}
use Rattle.numbers.specs.Bytes.{num, parts}
use Rattle.numbers.specs.Result.{Outcome, check, finished}
use Rattle.hello.specs.Pieces.{capability, geninfo, parameters_type, smart_mac_type, nickname_type, trees_type, Piece, sub, skipped, broken, pieces}
use Rattle.hello.specs.Contents.{Parameters, Nickname, Trees, SmartMac, Contents, Item, parameters, nicknames, trees, smart_mac, ignored, malformed}
use Rattle.numbers.specs.declared.refusals.Refusal.TheVariants.{HelloMalformed, ParametersMissing}

-- ---- one piece

unfoldable pub parameters_of : List ℕ → Parameters
parameters_of v = record { holding = num (take 2 v); flags = num (drop 2 v) }

-- nickname priority 1 byte, tree root priority 2, nickname 2
unfoldable pub nickname_of : List ℕ → Nickname
nickname_of b = record { priority = num (take 1 b); root = num (take 2 (drop 1 b)); nickname = num (drop 3 b) }

unfoldable pub trees_of : List ℕ → Trees
trees_of v = record { start = num (take 2 v); nicknames = map num (parts 2 (drop 2 v)) }

-- F 1 bit, M 1, reserved 6, label 24: with F 1 all of it, with F 0 its low 12 bits
unfoldable pub label_in : ℕ → ℕ
label_in x = pick (eqb (x / 2 ^ 31 % 2) 1) (x % 2 ^ 24) (x % 2 ^ 12)

unfoldable pub smart_mac_of : List ℕ → SmartMac
smart_mac_of v =
    let x = num (take 4 v) in
    record { fine = x / 2 ^ 31 % 2; multihomed = x / 2 ^ 30 % 2; label = label_in x; macs = map num (parts 6 (drop 4 v)) }

-- "a length its type doesn't allow"; types of the other registry and all others are skipped
unfoldable pub sub_says : ℕ → ℕ → List ℕ → Item
sub_says h k v =
    pick (both (eqb h geninfo) (eqb k parameters_type)) (pick (eqb (length v) 4) (parameters (parameters_of v)) malformed)
    (pick (both (eqb h capability) (eqb k nickname_type)) (pick (eqb (length v % 5) 0) (nicknames (map nickname_of (parts 5 v))) malformed)
    (pick (both (eqb h capability) (eqb k trees_type)) (pick (both (leb 2 (length v)) (eqb (length v % 2) 0)) (trees (trees_of v)) malformed)
    (pick (both (eqb h geninfo) (eqb k smart_mac_type)) (pick (both (leb 4 (length v)) (eqb ((length v - 4) % 6) 0)) (smart_mac (smart_mac_of v)) malformed)
    ignored)))

unfoldable pub says : Piece → Item
says (sub s) = sub_says s.holder s.kind s.value
says skipped = ignored
says broken = malformed

-- ---- all of them

unfoldable pub is_malformed : Item → Bool
is_malformed (parameters p) = false
is_malformed (nicknames r) = false
is_malformed (trees t) = false
is_malformed (smart_mac m) = false
is_malformed ignored = false
is_malformed malformed = true

unfoldable pub parameters_in : Item → List Parameters
parameters_in (parameters p) = p ∷ []
parameters_in (nicknames r) = []
parameters_in (trees t) = []
parameters_in (smart_mac m) = []
parameters_in ignored = []
parameters_in malformed = []

unfoldable pub nicknames_in : Item → List (List Nickname)
nicknames_in (parameters p) = []
nicknames_in (nicknames r) = r ∷ []
nicknames_in (trees t) = []
nicknames_in (smart_mac m) = []
nicknames_in ignored = []
nicknames_in malformed = []

unfoldable pub trees_in : Item → List Trees
trees_in (parameters p) = []
trees_in (nicknames r) = []
trees_in (trees t) = t ∷ []
trees_in (smart_mac m) = []
trees_in ignored = []
trees_in malformed = []

unfoldable pub macs_in : Item → List SmartMac
macs_in (parameters p) = []
macs_in (nicknames r) = []
macs_in (trees t) = []
macs_in (smart_mac m) = m ∷ []
macs_in ignored = []
macs_in malformed = []

abbrev pub gathered : List Item → Contents
gathered is = record { parameters = flat_map parameters_in is; nicknames = flat_map nicknames_in is; trees = flat_map trees_in is; macs = flat_map macs_in is }

-- 25 "Smart-Parameters twice"; "then 26 parameters missing"
unfoldable pub single : {A : Type 0} → List Parameters → Outcome A → Outcome A
single ps next = check (leb (length ps) 1) HelloMalformed (check (leb 1 (length ps)) ParametersMissing next)

unfoldable pub understood : List Item → Outcome Contents
understood is = check (not (any_of is_malformed is)) HelloMalformed (single (gathered is).parameters (Ok (gathered is)))

-- what the pieces of a payload say
abbrev pub items : List ℕ → List Item
items l = map says (pieces l)

unfoldable pub hello_read : List ℕ → Outcome Contents
hello_read l = understood (items l)

-- what a call is refused with, whatever its value
abbrev pub refusal_of : {A : Type 0} → Outcome A → Outcome (Unit {0})
refusal_of (Err r) = Err r
refusal_of (Ok a) = finished
