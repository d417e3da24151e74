-- Worked cases, as the words of the C boundary: slot 0 of a table that has P1 of document 01 alone.
-- Assumes nothing.
use Rattle.std.specs.Prelude.{ℕ, List, [], ◌∷◌, map, ◌≡◌}
use Rattle.table.specs.Slots.{freed}
use Rattle.why.specs.Why.{why}
use Rattle.why.specs.Words.{why_word}

-- an ingress nickname, a payload, a slot and a table
pub record Question : Type 0 where
  pub ingress : ℕ
  pub payload : List ℕ
  pub slot : ℕ
  pub table : List ℕ

abbrev pub asked : ℕ → List ℕ → ℕ → List ℕ → Question
asked ingress l k t = record { ingress = ingress; payload = l; slot = k; table = t }

abbrev pub word_of : Question → ℕ
word_of q = why_word (why q.ingress q.payload q.slot q.table)

-- P1: VLAN 10, 02-00-00-00-00-01, nickname 1234, learned
abbrev pub p1 : List ℕ
p1 = 0x40 ∷ 0x00 ∷ 0x01 ∷ 0x40 ∷ 0x40 ∷ 0x00 ∷ 0x00 ∷ 0x00 ∷ 0x00 ∷ 0x22 ∷ 0x46 ∷ 0x82 ∷ 0x81 ∷ 0x2C ∷ 0x00 ∷ []

-- the same with state 2, and with a bit set in the byte of the mark that must be zero
abbrev pub configured : List ℕ
configured = 0x80 ∷ 0x00 ∷ 0x01 ∷ 0x40 ∷ 0x40 ∷ 0x00 ∷ 0x00 ∷ 0x00 ∷ 0x00 ∷ 0x22 ∷ 0x46 ∷ 0x82 ∷ 0x81 ∷ 0x2C ∷ 0x00 ∷ []

abbrev pub spoilt : List ℕ
spoilt = 0x40 ∷ 0x00 ∷ 0x01 ∷ 0x40 ∷ 0x40 ∷ 0x00 ∷ 0x00 ∷ 0x00 ∷ 0x00 ∷ 0x22 ∷ 0x46 ∷ 0x82 ∷ 0x81 ∷ 0x2C ∷ 0x01 ∷ []

-- the payloads of P2 and P3
abbrev pub p2 : List ℕ
p2 = 0x01 ∷ 0x12 ∷ 0x34 ∷ 0x01 ∷ 0x00 ∷ 0x0A ∷ 0x00 ∷ 0x0C ∷ []

abbrev pub p3 : List ℕ
p3 = 0x00 ∷ 0x01 ∷ 0x00 ∷ 0x0A ∷ 0x00 ∷ 0x0A ∷ []

-- a list with the MAC 02-00-00-00-00-xx, an unknown type, every label
abbrev pub listing : ℕ → List ℕ
listing last = 0x00 ∷ 0x00 ∷ 0x07 ∷ 0x06 ∷ 0x02 ∷ 0x00 ∷ 0x00 ∷ 0x00 ∷ 0x00 ∷ last ∷ 0x09 ∷ 0x00 ∷ 0x06 ∷ 0x00 ∷ []

-- the sender's own nickname in a list, the second of two, and the second of two blocks
abbrev pub second : List ℕ
second = 0x02 ∷ 0x12 ∷ 0x35 ∷ 0x12 ∷ 0x34 ∷ 0x02 ∷ 0x00 ∷ 0x0B ∷ 0x00 ∷ 0x0C ∷ 0x00 ∷ 0x0A ∷ 0x00 ∷ 0x0A ∷ []

-- the request's vectors; then each other reason, and places above 0
abbrev pub questions : List Question
questions =
    asked 0x1235 p2 0 p1
    ∷ asked 0x1235 p3 0 p1
    ∷ asked 0x1234 (listing 0x02) 0 p1
    ∷ asked 0x1234 (listing 0x01) 0 p1
    ∷ asked 0x1234 p3 0 p1
    ∷ asked 0x1234 second 0 p1
    ∷ asked 0x1234 (0x00 ∷ 0x01 ∷ 0x00 ∷ 0x0B ∷ 0x00 ∷ 0x0B ∷ []) 0 p1
    ∷ asked 0x1234 (0x00 ∷ 0x00 ∷ 0x06 ∷ 0x00 ∷ 0x00 ∷ []) 0 p1
    ∷ asked 0x1234 p3 0 freed
    ∷ asked 0x1234 p3 0 spoilt
    ∷ asked 0x1234 p3 0 configured
    ∷ asked 0x1234 p3 0 (0x00 ∷ p1)
    ∷ asked 0x1234 (0x00 ∷ []) 1 p1
    ∷ asked 0x1234 (0x00 ∷ []) 0 p1
    ∷ []

abbrev pub words : List ℕ
words =
    0x8000_0000_0000_0046
    ∷ 67
    ∷ 69
    ∷ 0x0000_0000_000B_0046
    ∷ 0x8000_0000_0001_0046
    ∷ 0x8000_0000_0004_0146
    ∷ 68
    ∷ 0x8000_0000_0003_0046
    ∷ 64
    ∷ 65
    ∷ 66
    ∷ 2
    ∷ 24
    ∷ 15
    ∷ []

abbrev pub WhyCases : Type 0
WhyCases = map word_of questions ≡ words
