-- The TRILL header: V 2 bits, R 2, M 1, Op-Length 5, Hop Count 6, egress nickname 16, ingress nickname 16; then options.
-- Assumes nothing.
use Rattle.std.specs.Prelude.{ℕ, ◌+◌, ◌*◌, ◌/◌, ◌%◌, ◌^◌, Bool, true, List, leb, eqb, length, take, drop, Ok}
use Rattle.numbers.specs.Result.{Outcome, check}
use Rattle.numbers.specs.Bytes.{num}
use Rattle.frame.specs.Front.{Front, unicast, multicast, refused_front, inner}
use Rattle.numbers.specs.declared.refusals.Refusal.TheVariants.{CutShort, VersionBad, MulticastDisagrees}

-- the two bytes at k as a number
abbrev pub word_at : ℕ → List ℕ → ℕ
word_at k l = num (take 2 (drop k l))

abbrev pub version_of : List ℕ → ℕ
version_of h = word_at 0 h / 2 ^ 14 % 2 ^ 2

-- the two R bits: 20h and 10h of the first byte
abbrev pub first_reserved : List ℕ → ℕ
first_reserved h = word_at 0 h / 2 ^ 13 % 2 ^ 1

abbrev pub second_reserved : List ℕ → ℕ
second_reserved h = word_at 0 h / 2 ^ 12 % 2 ^ 1

abbrev pub multicast_of : List ℕ → ℕ
multicast_of h = word_at 0 h / 2 ^ 11 % 2 ^ 1

abbrev pub option_length : List ℕ → ℕ
option_length h = word_at 0 h / 2 ^ 6 % 2 ^ 5

abbrev pub hop_count : List ℕ → ℕ
hop_count h = word_at 0 h % 2 ^ 6

abbrev pub egress_of : List ℕ → ℕ
egress_of h = word_at 2 h

abbrev pub ingress_of : List ℕ → ℕ
ingress_of h = word_at 4 h

-- "6 bytes ...; then Op-Length times 4 option bytes"
abbrev pub fixed_bytes : ℕ
fixed_bytes = 6

abbrev pub header_bytes : List ℕ → ℕ
header_bytes h = fixed_bytes + 4 * option_length h

-- "A General frame has the :40 address exactly if M is 1"
abbrev pub agrees : Front → ℕ → Bool
agrees unicast m = eqb m 0
agrees multicast m = eqb m 1
agrees refused_front m = true
agrees inner m = true

-- n bytes are left, else the field is cut
abbrev pub field : {A : Type 0} → ℕ → List ℕ → Outcome A → Outcome A
field n l next = check (leb n (length l)) CutShort next

-- the bytes that the header takes: "7 before 12, once all six header bytes are there", then the options
unfoldable pub header_length : Front → List ℕ → Outcome ℕ
header_length d l =
    field fixed_bytes l
    (check (eqb (version_of l) 0) VersionBad
    (check (agrees d (multicast_of l)) MulticastDisagrees
    (field (header_bytes l) l
    (Ok (header_bytes l)))))
