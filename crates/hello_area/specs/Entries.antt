-- The contents area entry by entry: each entry is taken as the sub-TLV that it is written as, or is 25; one shape for all types.
-- Assumes nothing.
use Rattle.std.specs.Prelude.{ℕ, zero, suc, ◌+◌, ◌-◌, ◌*◌, ◌%◌, ◌^◌, Bool, leb, ltb, eqb, length, drop, get_or, Ok, Err}
use mathlib.Core.List.{List, [], ◌∷◌, ◌++◌, map, flat_map}
use Rattle.numbers.specs.Tests.{pick, both, either}
use Rattle.numbers.specs.Bytes.{num, bytes_of, parts}
use Rattle.numbers.specs.Result.{Outcome, check, and_then}
use Rattle.hello.specs.Pieces.{capability, geninfo, parameters_type, smart_mac_type, nickname_type, trees_type, Sub}
use Rattle.hello.specs.Contents.{Parameters}
use Rattle.hello.specs.Writing.{within, most_nicknames, most_trees, most_macs, parameters_good, nickname_good, label_top, nickname_bytes, tlvs_of}
use Rattle.hello.specs.Area.{Taken, Taker, taken, take_one, then, take_many, take_counted, take_parameters, take_nickname}
use Rattle.numbers.specs.declared.refusals.Refusal.TheVariants.{HelloMalformed, ParametersMissing}

-- the numbers of an area
unfoldable pub numbers_in : List ℕ → List ℕ
numbers_in area = map num (parts 8 area)

-- what is taken where it passes a test, in another form
unfoldable pub via : {A B : Type 0} → Taker A → (A → Bool) → (A → B) → Taker B
via p g f l = and_then (p l) λ t. check (g t.value) HelloMalformed (taken (f t.value) t.rest)

-- F, M and the label of a Smart-MAC, as one number of 32 bits
pub record Label : Type 0 where
  pub fine : ℕ
  pub multihomed : ℕ
  pub number : ℕ

unfoldable pub take_label : Taker Label
take_label = then take_one λ f. then take_one λ m. then take_one λ n. taken (record { fine = f; multihomed = m; number = n })

unfoldable pub label_good : Label → Bool
label_good x = both (leb x.fine 1) (both (leb x.multihomed 1) (ltb x.number (label_top x.fine)))

unfoldable pub label_bytes : Label → List ℕ
label_bytes x = bytes_of 4 (x.fine * 2 ^ 31 + (x.multihomed * 2 ^ 30 + x.number))

unfoldable pub parameters_bytes : Parameters → List ℕ
parameters_bytes p = bytes_of 2 p.holding ++ bytes_of 2 p.flags

-- what stands in front of the list of an entry, as bytes
unfoldable pub take_head : ℕ → Taker (List ℕ)
take_head k =
    pick (eqb k parameters_type) (via take_parameters parameters_good parameters_bytes)
    (pick (eqb k nickname_type) (taken [])
    (pick (eqb k trees_type) (via take_one (within 2) (bytes_of 2))
    (via take_label label_good label_bytes)))

-- one element of the list, as bytes
unfoldable pub take_item : ℕ → Taker (List ℕ)
take_item k =
    pick (eqb k nickname_type) (via take_nickname nickname_good nickname_bytes)
    (pick (eqb k trees_type) (via take_one (within 2) (bytes_of 2))
    (via take_one (within 6) (bytes_of 6)))

abbrev pub most_of : ℕ → ℕ
most_of k = pick (eqb k nickname_type) most_nicknames (pick (eqb k trees_type) most_trees most_macs)

-- the list, as bytes
unfoldable pub take_list : ℕ → Taker (List ℕ)
take_list k = then take_one λ m r. check (leb m (most_of k)) HelloMalformed (and_then (take_many (take_item k) m r) λ t. taken (flat_map (λ (b : List ℕ). b) t.value) t.rest)

-- the TLV that holds sub-TLVs of a type
abbrev pub holder_for : ℕ → ℕ
holder_for k = pick (either (eqb k parameters_type) (eqb k smart_mac_type)) geninfo capability

-- an entry, as its sub-TLV
unfoldable pub take_sub : ℕ → Taker Sub
take_sub k =
    pick (eqb k parameters_type)
    (then (take_head k) λ h. taken (record { holder = holder_for k; kind = k; value = h }))
    (then (take_head k) λ h. then (take_list k) λ b. taken (record { holder = holder_for k; kind = k; value = h ++ b }))

-- what two takers take, one behind the other
unfoldable pub take_both : Taker (List Sub) → Taker (List Sub) → Taker (List Sub)
take_both p q = then p λ a. then q λ b. taken (a ++ b)

-- the sub-TLVs of all sections, in the writer's order
unfoldable pub take_subs : Taker (List Sub)
take_subs =
    take_both (take_counted (take_sub parameters_type))
    (take_both (take_counted (take_sub nickname_type))
    (take_both (take_counted (take_sub trees_type)) (take_counted (take_sub smart_mac_type))))

-- the payload that an area is written as, entry by entry; the first number is how many Smart-Parameters there are
unfoldable pub entries_written : List ℕ → Outcome (List ℕ)
entries_written area =
    check (eqb (length area % 8) 0) HelloMalformed
    (and_then (take_subs (numbers_in area)) λ t.
    check (leb (length t.rest) 0) HelloMalformed
    (check (leb (get_or (numbers_in area) 0 0) 1) HelloMalformed
    (check (leb 1 (get_or (numbers_in area) 0 0)) ParametersMissing
    (Ok (tlvs_of t.value)))))

-- where a taker that starts at the number i ends; past the end where it refuses
abbrev pub end_in : {A : Type 0} → List ℕ → Outcome (Taken A) → ℕ
end_in ns (Err m) = 1 + length ns
end_in ns (Ok t) = length ns - length t.rest

unfoldable pub end_from : {A : Type 0} → Taker A → List ℕ → ℕ → ℕ
end_from p ns i = end_in ns (p (drop i ns))

-- the same from any place: past the end it stays so
unfoldable pub reach : {A : Type 0} → Taker A → List ℕ → ℕ → ℕ
reach p ns i = pick (leb i (length ns)) (end_from p ns i) (1 + length ns)

-- the sub-TLV that the entry at the number i is; one without a value where it is malformed
unfoldable pub sub_in : ℕ → Outcome (Taken Sub) → Sub
sub_in k (Err m) = record { holder = holder_for k; kind = k; value = [] }
sub_in k (Ok t) = t.value

unfoldable pub sub_at : ℕ → List ℕ → ℕ → Sub
sub_at k ns i = sub_in k (take_sub k (drop i ns))

-- the sub-TLVs of m entries, the first at the number i
unfoldable pub subs_at : ℕ → List ℕ → ℕ → ℕ → List Sub
subs_at k ns i zero = []
subs_at k ns i (suc m) = sub_at k ns i ∷ subs_at k ns (reach (take_sub k) ns i) m
