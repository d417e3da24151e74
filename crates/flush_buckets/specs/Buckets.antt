-- Filter bits: one for each bucket of 256 numbers, counted round.
-- Assumes nothing.
use Rattle.std.specs.Prelude.{ℕ, ◌/◌, ◌%◌, ◌≤◌, ◌<◌, Bool, true, List, ◌≡◌, length, get_or}
use Rattle.numbers.specs.Numberings.{bit_at}

-- 65,536 bits, and a byte after them that is not used
abbrev pub bucket_bytes : ℕ
bucket_bytes = 8193

-- the bucket of a number
unfoldable pub bucket_of : ℕ → ℕ
bucket_of x = x / 256 % 65536

-- the bit of a number alone: another than that of its bucket, so that numbers that share one are mostly set apart
unfoldable pub alone_of : ℕ → ℕ
alone_of x = x % 65536

-- the bits s have become t, and none is lost
pub record Keeps (s t : List ℕ) : Type 0 where
  pub long : length t ≡ length s
  pub kept : (y : ℕ) → bit_at y s ≡ true → bit_at y t ≡ true

-- the bits of the numbers from s to before e are set
abbrev pub Added : ℕ → ℕ → List ℕ → Type 0
Added s e t = (x : ℕ) → s ≤ x → x < e → bit_at (bucket_of x) t ≡ true

-- the bits of the numbers that pass the test are set
pub record HasBits (q : ℕ → Bool) (t : List ℕ) : Type 0 where
  pub long : length t ≡ bucket_bytes
  pub each : (x : ℕ) → q x ≡ true → bit_at (bucket_of x) t ≡ true

-- the bits s have become t: none is lost, those of the numbers that pass the test are set, and where they are full every one
pub record Names (q : ℕ → Bool) (s t : List ℕ) (full : Bool) : Type 0 where
  pub keeps : Keeps s t
  pub each : (x : ℕ) → q x ≡ true → bit_at (bucket_of x) t ≡ true
  pub all : full ≡ true → (x : ℕ) → bit_at (bucket_of x) t ≡ true

-- ---- keys: a number, times the slots that it has room for, and a slot

abbrev pub key_slots : ℕ
key_slots = 4096

-- the bits of the numbers of keys are set, of each that of its bucket and its own
pub record Nears (keys bits : List ℕ) : Type 0 where
  pub long : length bits ≡ bucket_bytes
  pub each : (i : ℕ) → i < length keys → bit_at (bucket_of (get_or keys i 0 / key_slots)) bits ≡ true
  pub alone : (i : ℕ) → i < length keys → bit_at (alone_of (get_or keys i 0 / key_slots)) bits ≡ true
