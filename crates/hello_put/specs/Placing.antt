-- The writer's cursor: the TLV that is open, and where the next sub-TLV goes: into it, whose length byte then counts it, or behind the head
-- of a new one.
-- Assumes nothing.
use Rattle.std.specs.Prelude.{ℕ, ◌+◌, ◌-◌, Bool, List, [], ◌∷◌, leb, eqb, length, set}
use Rattle.numbers.specs.Tests.{pick, both}
use Rattle.frame_copy.specs.Areas.{pasted}
use Rattle.hello.specs.Pieces.{Sub}
use Rattle.hello.specs.Writing.{head_of, sub_bytes, longest_value}
use Rattle.hello_put.specs.declared.Cursor.{Cursor}

-- a cursor with no TLV open: no sub-TLV has the holder 0
abbrev pub unopened : Cursor
unopened = record { holder = 0; start = 0; at = 0 }

-- the open TLV takes a sub-TLV with this holder and size: it is of that type, and its value stays within its limit
unfoldable pub takes : Cursor → ℕ → ℕ → Bool
takes c h n = both (eqb c.holder h) (leb (c.at + n) (c.start + (2 + longest_value)))

-- the cursor after it
unfoldable pub stepped : Cursor → ℕ → ℕ → Cursor
stepped c h n =
    pick (takes c h n)
    (record { holder = h; start = c.start; at = c.at + n })
    (record { holder = h; start = c.at; at = c.at + (2 + length (head_of h)) + n })

-- a new TLV up to its sub-TLVs, of which the first has this size
unfoldable pub opening : ℕ → ℕ → List ℕ
opening h n = h ∷ ((length (head_of h) + n) ∷ head_of h)

-- the area with its room made: the length byte counts it, or a new TLV is there
unfoldable pub opened : List ℕ → Cursor → ℕ → ℕ → List ℕ
opened o c h n = pick (takes c h n) (set o (c.start + 1) (c.at + n - (c.start + 2))) (pasted o c.at (opening h n))

-- the cursor after a sub-TLV, and the area with it
abbrev pub stepped_by : Cursor → Sub → Cursor
stepped_by c s = stepped c s.holder (length (sub_bytes s))

unfoldable pub placed : List ℕ → Cursor → Sub → List ℕ
placed o c s = pasted (opened o c s.holder (length (sub_bytes s))) ((stepped_by c s).at - length (sub_bytes s)) (sub_bytes s)

-- the same of sub-TLVs one after the other
unfoldable pub stepped_all : Cursor → List Sub → Cursor
stepped_all c [] = c
stepped_all c (s ∷ ss) = stepped_all (stepped_by c s) ss

unfoldable pub placed_all : List ℕ → Cursor → List Sub → List ℕ
placed_all o c [] = o
placed_all o c (s ∷ ss) = placed_all (placed o c s) (stepped_by c s) ss
