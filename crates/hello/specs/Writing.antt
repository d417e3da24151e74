-- Writing a Smart-Hello: which contents can be written, each sub-TLV's bytes, and how they are put into TLVs.
-- Assumes nothing.
use Rattle.std.specs.Prelude.{ℕ, ◌+◌, ◌*◌, ◌^◌, Bool, leb, ltb, eqb, length, Ok}
use mathlib.Core.List.{List, [], ◌∷◌, ◌++◌, map, flat_map}
use Rattle.numbers.specs.Tests.{pick, both, all_of}
use Rattle.numbers.specs.Bytes.{bytes_of}
use Rattle.numbers.specs.Result.{Outcome, check}
use Rattle.hello.specs.Tlvs.{tlv_bytes}
use Rattle.hello.specs.Pieces.{capability, geninfo, parameters_type, smart_mac_type, nickname_type, trees_type, Sub}
use Rattle.hello.specs.Contents.{Parameters, Nickname, Trees, SmartMac, Contents}
use Rattle.hello.specs.Reading.{single}
use Rattle.numbers.specs.declared.refusals.Refusal.TheVariants.{HelloMalformed}

-- ---- "a number over its field or a list that no TLV holds"

-- the number fits k bytes
abbrev pub within : ℕ → ℕ → Bool
within k n = ltb n (256 ^ k)

abbrev pub most_nicknames : ℕ
most_nicknames = 49

abbrev pub most_trees : ℕ
most_trees = 123

abbrev pub most_macs : ℕ
most_macs = 41

unfoldable pub parameters_good : Parameters → Bool
parameters_good p = both (within 2 p.holding) (within 2 p.flags)

unfoldable pub nickname_good : Nickname → Bool
nickname_good n = both (within 1 n.priority) (both (within 2 n.root) (within 2 n.nickname))

unfoldable pub nicknames_good : List Nickname → Bool
nicknames_good r = both (leb (length r) most_nicknames) (all_of nickname_good r)

unfoldable pub trees_good : Trees → Bool
trees_good t = both (within 2 t.start) (both (leb (length t.nicknames) most_trees) (all_of (within 2) t.nicknames))

-- "with F 0 the label's field is 12 bits"
abbrev pub label_top : ℕ → ℕ
label_top f = pick (eqb f 1) (2 ^ 24) (2 ^ 12)

unfoldable pub smart_mac_good : SmartMac → Bool
smart_mac_good m =
    both (leb m.fine 1)
    (both (leb m.multihomed 1)
    (both (ltb m.label (label_top m.fine))
    (both (leb (length m.macs) most_macs) (all_of (within 6) m.macs))))

unfoldable pub contents_good : Contents → Bool
contents_good c =
    both (all_of parameters_good c.parameters)
    (both (all_of nicknames_good c.nicknames)
    (both (all_of trees_good c.trees) (all_of smart_mac_good c.macs)))

-- ---- each sub-TLV

unfoldable pub parameters_sub : Parameters → Sub
parameters_sub p = record { holder = geninfo; kind = parameters_type; value = bytes_of 2 p.holding ++ bytes_of 2 p.flags }

unfoldable pub nickname_bytes : Nickname → List ℕ
nickname_bytes n = bytes_of 1 n.priority ++ (bytes_of 2 n.root ++ bytes_of 2 n.nickname)

unfoldable pub nicknames_sub : List Nickname → Sub
nicknames_sub r = record { holder = capability; kind = nickname_type; value = flat_map nickname_bytes r }

unfoldable pub trees_sub : Trees → Sub
trees_sub t = record { holder = capability; kind = trees_type; value = bytes_of 2 t.start ++ flat_map (bytes_of 2) t.nicknames }

abbrev pub label_word : SmartMac → ℕ
label_word m = m.fine * 2 ^ 31 + (m.multihomed * 2 ^ 30 + m.label)

unfoldable pub smart_mac_sub : SmartMac → Sub
smart_mac_sub m = record { holder = geninfo; kind = smart_mac_type; value = bytes_of 4 (label_word m) ++ flat_map (bytes_of 6) m.macs }

-- "The writer puts Smart-Parameters first, the rest in the order of those sections"
unfoldable pub subs_of : Contents → List Sub
subs_of c = map parameters_sub c.parameters ++ (map nicknames_sub c.nicknames ++ (map trees_sub c.trees ++ map smart_mac_sub c.macs))

-- ---- "each TLV taking as many of the next as it holds"

-- Router ID 0 and flags 0; flags 0 and application 1
unfoldable pub head_of : ℕ → List ℕ
head_of h = pick (eqb h capability) (0 ∷ 0 ∷ 0 ∷ 0 ∷ 0 ∷ []) (0 ∷ 0 ∷ 1 ∷ [])

unfoldable pub sub_bytes : Sub → List ℕ
sub_bytes s = tlv_bytes s.kind s.value

-- the most bytes of a TLV's value
abbrev pub longest_value : ℕ
longest_value = 255

-- the next goes into the TLV that is open: of its kind, and it fits
unfoldable pub joins : ℕ → List ℕ → Sub → Bool
joins h b s = both (eqb h s.holder) (leb (length b + length (sub_bytes s)) longest_value)

-- the TLV of type h that is open, with its value so far, and then the others
unfoldable pub grouped : ℕ → List ℕ → List Sub → List ℕ
grouped h b [] = tlv_bytes h b
grouped h b (s ∷ ss) =
    pick (joins h b s)
    (grouped h (b ++ sub_bytes s) ss)
    (tlv_bytes h b ++ grouped s.holder (head_of s.holder ++ sub_bytes s) ss)

unfoldable pub tlvs_of : List Sub → List ℕ
tlvs_of [] = []
tlvs_of (s ∷ ss) = grouped s.holder (head_of s.holder ++ sub_bytes s) ss

unfoldable pub hello_written : Contents → Outcome (List ℕ)
hello_written c = check (contents_good c) HelloMalformed (single c.parameters (Ok (tlvs_of (subs_of c))))
