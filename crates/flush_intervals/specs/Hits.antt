-- Sorted keys, a number times `key_slots` and a slot each, and bits that say of which keys the number passes a test.
-- Assumes nothing.
use Rattle.std.specs.Prelude.{ℕ, ◌/◌, ◌≤◌, ◌<◌, Bool, List, ◌≡◌, length, take, drop, get_or}
use Rattle.numbers.specs.Tests.{either}
use Rattle.numbers.specs.Numberings.{bit_at}
use Rattle.flush_sort.specs.Sorting.{All, Sorted}
use Rattle.flush_buckets.specs.Buckets.{Nears, key_slots}
use Rattle.table.specs.Slots.{most_slots}

-- a bit for each key, of which there are as many as slots at most, and a byte after them that is not used
abbrev pub hit_bytes : ℕ
hit_bytes = 513

-- r of the list are below y, and they stand in front
pub record Splits (l : List ℕ) (y r : ℕ) : Type 0 where
  pub within : r ≤ length l
  pub below : All (λ v. v < y) (take r l)
  pub above : All (λ v. y ≤ v) (drop r l)

-- keys that are searched, filter bits of their numbers, and a bit for each
pub record Searched (near keys hits : List ℕ) : Type 0 where
  pub sorted : Sorted keys
  pub few : length keys ≤ most_slots
  pub nears : Nears keys near
  pub room : length hits ≡ hit_bytes

-- the bits h₀ have become h: those of the keys whose number passes the test are set
pub record Hits (q : ℕ → Bool) (keys h₀ h : List ℕ) : Type 0 where
  pub long : length h ≡ length h₀
  pub each : (i : ℕ) → i < length keys → bit_at i h ≡ either (bit_at i h₀) (q (get_or keys i 0 / key_slots))

-- the same so far: of the keys before key i
pub record HitsTo (q : ℕ → Bool) (keys h₀ : List ℕ) (i : ℕ) (h : List ℕ) : Type 0 where
  pub long : length h ≡ length h₀
  pub done : (k : ℕ) → k < i → bit_at k h ≡ either (bit_at k h₀) (q (get_or keys k 0 / key_slots))
  pub rest : (k : ℕ) → i ≤ k → bit_at k h ≡ bit_at k h₀
