-- The call that writes a flush: the four lists as they lie in their areas, and what is written.
-- Assumes nothing.
use Rattle.std.specs.Prelude.{ℕ, ◌*◌, ◌%◌, Bool, List, map, eqb, length, take, drop, Ok, Err}
use Rattle.numbers.specs.Tests.{both}
use Rattle.numbers.specs.Result.{Outcome, check, and_then, settled}
use Rattle.numbers.specs.After.{OnArea, on_area}
use Rattle.numbers.specs.Bytes.{num, parts}
use Rattle.convert.specs.Compaction.{written}
use Rattle.flush_write.specs.Writing.{Block, Asked, written_flush}
use Rattle.numbers.specs.declared.refusals.Refusal.TheVariants.{ListsBad}

-- the bytes of a number in its list: a nickname and a VLAN 2, a fine-grained label 4, a MAC 8
abbrev pub nick_item : ℕ
nick_item = 2

abbrev pub vlan_item : ℕ
vlan_item = 2

abbrev pub fine_item : ℕ
fine_item = 4

abbrev pub mac_item : ℕ
mac_item = 8

-- a block of numbers of k bytes: its start, then its end
unfoldable pub block_in : ℕ → List ℕ → Block
block_in k b = record { start = num (take k b); end = num (take k (drop k b)) }

unfoldable pub blocks_in : ℕ → List ℕ → List Block
blocks_in k l = map (block_in k) (parts (2 * k) l)

unfoldable pub nicks_in : List ℕ → List ℕ
nicks_in l = map num (parts nick_item l)

abbrev pub asked_in : List ℕ → List ℕ → List ℕ → List ℕ → Asked
asked_in ns vs fs ms = record { nicks = nicks_in ns; vlan_blocks = blocks_in vlan_item vs; fine_blocks = blocks_in fine_item fs; mac_blocks = blocks_in mac_item ms }

-- an area is a whole number of items of k bytes
unfoldable pub items_whole : ℕ → List ℕ → Bool
items_whole k l = eqb (length l % k) 0

unfoldable pub areas_whole : List ℕ → List ℕ → List ℕ → List ℕ → Bool
areas_whole ns vs fs ms =
    both (items_whole nick_item ns)
    (both (items_whole (2 * vlan_item) vs)
    (both (items_whole (2 * fine_item) fs)
    (items_whole (2 * mac_item) ms)))

-- the message, or 23
unfoldable pub flush_of : List ℕ → List ℕ → List ℕ → List ℕ → Outcome (List ℕ)
flush_of ns vs fs ms = check (areas_whole ns vs fs ms) ListsBad (written_flush (asked_in ns vs fs ms))

-- the writing call: 23, then 16
unfoldable pub flush_written : List ℕ → List ℕ → List ℕ → List ℕ → List ℕ → OnArea (Outcome ℕ)
flush_written ns vs fs ms out =
    settled (λ n. on_area (Err n) out)
    (and_then (flush_of ns vs fs ms) λ b. written Ok b out)
