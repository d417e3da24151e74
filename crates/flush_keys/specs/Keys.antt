-- The number of a record that a filter tests, and keys: such a number, times `key_slots`, and the slot that holds it.
-- Assumes nothing.
use Rattle.std.specs.Prelude.{ℕ, ◌/◌, ◌%◌, ◌<◌, ◌≤◌, Bool, true, not, List, ◌≡◌, eqb, length, get_or}
use Rattle.numbers.specs.Tests.{both, either, any_of}
use Rattle.numbers.specs.Numberings.{bit_at}
use Rattle.table.specs.Record.{record_of, kind_of, label_of, mac_of}
use Rattle.table.specs.Slots.{most_slots, slots_of}
use Rattle.flush_sort.specs.Sorting.{All}
use Rattle.flush_buckets.specs.Buckets.{HasBits, key_slots}
use Rattle.flush_keys.specs.declared.Field.{Field}
use Rattle.flush_keys.specs.declared.Field.TheVariants.{Fine, Mac}

-- the number in a slot that a filter tests
unfoldable pub number_in : Field → List ℕ → ℕ
number_in Fine r = label_of (record_of r)
number_in Mac r = mac_of (record_of r)

-- a VLAN is no fine-grained label; every record has a MAC
unfoldable pub applies_to : Field → List ℕ → Bool
applies_to Fine r = not (eqb (kind_of (record_of r)) 0)
applies_to Mac r = true

-- each is a slot of the table
pub record InTable (t slots : List ℕ) : Type 0 where
  pub few : slots_of t ≤ most_slots
  pub each : All (λ s. s < slots_of t) slots

-- the key is that of slot j, and its number passes the test
unfoldable pub keyed : (ℕ → Bool) → ℕ → ℕ → Bool
keyed q j v = both (eqb (v % key_slots) j) (q (v / key_slots))

-- bit i says whether the number of key i passes the test
pub record Hit (q : ℕ → Bool) (keys hits : List ℕ) : Type 0 where
  pub each : (i : ℕ) → i < length keys → bit_at i hits ≡ q (get_or keys i 0 / key_slots)

-- the marks s have become u: with the slots of the keys whose number passes the test
pub record Marked (q : ℕ → Bool) (keys s u : List ℕ) : Type 0 where
  pub long : length u ≡ length s
  pub each : (j : ℕ) → bit_at j u ≡ either (bit_at j s) (any_of (keyed q j) keys)

-- the marks s have become u: with the slots of the list that pass the test
pub record Joined (test : ℕ → Bool) (slots s u : List ℕ) : Type 0 where
  pub long : length u ≡ length s
  pub each : (j : ℕ) → bit_at j u ≡ either (bit_at j s) (both (any_of (eqb j) slots) (test j))

-- the keys are those of the slots of a list that pass a test, each with its number; one whose number has no bit may be left out
pub record KeysOf (test : ℕ → Bool) (number : ℕ → ℕ) (slots named keys : List ℕ) : Type 0 where
  pub each : (q : ℕ → Bool) → HasBits q named → (j : ℕ) → any_of (keyed q j) keys ≡ both (any_of (eqb j) slots) (both (test j) (q (number j)))
