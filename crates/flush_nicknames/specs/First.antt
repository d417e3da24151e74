-- The test of the first pass of a flush: learned, a nickname that is meant, and a label that may be meant.
-- Assumes nothing.
use Rattle.std.specs.Prelude.{ℕ, ◌+◌, ◌*◌, ◌%◌, ◌^◌, ◌<◌, ◌≤◌, Bool, true, false, List, ◌≡◌, eqb, length, drop, Option, Some, None}
use Rattle.numbers.specs.Tests.{pick, both, either}
use Rattle.numbers.specs.Numberings.{bit_at}
use Rattle.table.specs.Record.{record_of, kind_of, label_of, nickname_of}
use Rattle.table.specs.Slots.{slot_bytes, slots_of, slot_at}
use Rattle.table.specs.declared.Label.TheVariants.{Vlan, Fine}
use Rattle.flush.specs.Payload.{every_type, Piece}
use Rattle.flush.specs.Meaning.{nickname_meant, label_meant}
use Rattle.flush_sets.specs.Gains.{in_nicknames}
use Rattle.flush_payload.specs.declared.Kinds.{Kinds}
use Rattle.flush_vlans.specs.Vlans.{vlan_bytes}
use Rattle.flush_buckets.specs.Buckets.{bucket_bytes, bucket_of}
use Rattle.flush_marks.specs.Marks.{Chosen}
use Rattle.flush_marks.specs.Filters.{slot_named}

-- a bit for each of 65,536 nicknames
abbrev pub name_bytes : ℕ
name_bytes = 8192

-- one nickname alone is the one that is meant; several are those of the list
pub record NicknamesAre (ingress : ℕ) (nicks : List ℕ) (n : Option ℕ) : Type 0 where
  pub one : (y : ℕ) → n ≡ Some y → (x : ℕ) → eqb x y ≡ nickname_meant ingress nicks x
  pub several : n ≡ None → (x : ℕ) → in_nicknames nicks x ≡ nickname_meant ingress nicks x

-- ---- the test of a slot

-- the slot has a VLAN that is meant, or a fine-grained label that may be meant
unfoldable pub kind_meant : List Piece → (ℕ → Bool) → List ℕ → Bool
kind_meant ps near r = pick (eqb (kind_of (record_of r)) 0) (label_meant every_type ps (Vlan (label_of (record_of r)))) (near (label_of (record_of r)))

-- fine-grained labels may be meant: all labels, or TLVs that name some
abbrev pub fine_noted : Kinds → Bool
fine_noted f = either f.every (either f.lists f.maps)

-- learned, with a nickname that passes the test, and by its label
unfoldable pub slot_first : (ℕ → Bool) → List Piece → (ℕ → Bool) → List ℕ → Bool
slot_first p ps near r = both (slot_named p r) (kind_meant ps near r)

-- the first pass: which fine-grained labels may be meant is free, but each that is meant is one of them, and where none is noted none is
pub record FirstPass (p : ℕ → Bool) (ps : List Piece) (fine : Bool) (from count : ℕ) (t m : List ℕ) : Type 0 where
  pub near : ℕ → Bool
  pub chosen : Chosen (slot_first p ps near) from count t m
  pub all : fine ≡ true → (x : ℕ) → label_meant every_type ps (Fine x) ≡ true → near x ≡ true
  pub none : fine ≡ false → (x : ℕ) → near x ≡ false

-- ---- the same as the code tests it

-- a fine-grained label has a bit, where there are filter bits
unfoldable pub near_bit : List ℕ → ℕ → Bool
near_bit bits x = both (eqb (length bits) bucket_bytes) (bit_at (bucket_of x) bits)

-- it passes where every label is meant, or by its bit
unfoldable pub may_pass : Bool → List ℕ → ℕ → Bool
may_pass every bits x = either every (near_bit bits x)

-- a VLAN's lower twelve bits are in the set; a fine-grained label by a test
unfoldable pub label_part : List ℕ → (ℕ → Bool) → List ℕ → Bool
label_part vlans near r = pick (eqb (kind_of (record_of r)) 0) (bit_at (label_of (record_of r) % 2 ^ 12) vlans) (near (label_of (record_of r)))

-- where every label is meant each VLAN is in the set
pub record EveryMeant (every : Bool) (vlans : List ℕ) : Type 0 where
  pub long : length vlans ≡ vlan_bytes
  pub all : every ≡ true → (x : ℕ) → x < 2 ^ 12 → bit_at x vlans ≡ true

unfoldable pub slot_marked : (ℕ → Bool) → List ℕ → (ℕ → Bool) → List ℕ → Bool
slot_marked p vlans near r = both (slot_named p r) (label_part vlans near r)

-- ---- the first slot with a nickname

-- the nickname in the slot, learned or not, passes the test
unfoldable pub slot_names : (ℕ → Bool) → List ℕ → Bool
slot_names p r = p (nickname_of (record_of r))

-- four slots from slot k on have no such nickname
abbrev pub round_slots : ℕ
round_slots = 4

pub record NoneOfRound (p : ℕ → Bool) (t : List ℕ) (k : ℕ) : Type 0 where
  pub first : slot_names p (drop (slot_bytes * k) t) ≡ false
  pub second : slot_names p (drop (slot_bytes * (k + 1)) t) ≡ false
  pub third : slot_names p (drop (slot_bytes * (k + 2)) t) ≡ false
  pub fourth : slot_names p (drop (slot_bytes * (k + 3)) t) ≡ false

-- the table has the slots from slot `from` on and before slot e
pub record Scanning (from e : ℕ) (t : List ℕ) : Type 0 where
  pub order : from ≤ e
  pub room : e ≤ slots_of t

-- before slot k no slot from slot `from` on has such a nickname
pub record FirstNamed (p : ℕ → Bool) (t : List ℕ) (from e k : ℕ) : Type 0 where
  pub behind : from ≤ k
  pub within : k ≤ e
  pub none : (j : ℕ) → from ≤ j → j < k → slot_names p (slot_at j t) ≡ false
