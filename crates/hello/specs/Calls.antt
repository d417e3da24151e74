-- The two calls: a payload to a contents area, a contents area to a payload; refusal 16, and what is lent.
-- Assumes nothing.
use Rattle.std.specs.Prelude.{ℕ, ◌^◌, ◌<◌, List, ◌≡◌, length, Ok, Err}
use Rattle.numbers.specs.Bytes.{AreBytes}
use Rattle.numbers.specs.Result.{Outcome, and_then, settled}
use Rattle.numbers.specs.After.{OnArea, on_area}
use Rattle.convert.specs.Compaction.{written}
use Rattle.hello.specs.Reading.{hello_read}
use Rattle.hello.specs.Writing.{hello_written}
use Rattle.hello.specs.Area.{area_of, contents_in}
use Rattle.hello.specs.Form.{PlainForm}
use Rattle.numbers.specs.declared.refusals.Refusal.{Refusal}

-- the contents area that a payload reads as; the payload that a contents area is written as
unfoldable pub area_read : List ℕ → Outcome (List ℕ)
area_read payload = and_then (hello_read payload) λ c. Ok (area_of c)

unfoldable pub area_written : List ℕ → Outcome (List ℕ)
area_written area = and_then (contents_in area) hello_written

-- "then 26 parameters missing; then 16"; a refusal changes nothing
unfoldable pub answered : Outcome (List ℕ) → List ℕ → OnArea (Outcome ℕ)
answered r out = settled (λ n. on_area (Err n) out) (and_then r λ b. written Ok b out)

unfoldable pub read_call : List ℕ → List ℕ → OnArea (Outcome ℕ)
read_call payload contents = answered (area_read payload) contents

unfoldable pub write_call : List ℕ → List ℕ → OnArea (Outcome ℕ)
write_call contents out = answered (area_written contents) out

-- the two laws, of the calls' bytes
pub record CallsUndo : Type 0 where
  pub written_reads : (a l : List ℕ) → AreBytes a → area_written a ≡ Ok l → area_read l ≡ Ok a
  pub read_writes : (l a : List ℕ) → AreBytes l → length l < 2 ^ 64 → PlainForm l → area_read l ≡ Ok a → area_written a ≡ Ok l
  pub read_writable : (l a : List ℕ) → AreBytes l → length l < 2 ^ 64 → area_read l ≡ Ok a → (w : List ℕ) × (area_written a ≡ Ok w)

-- a refusal changes nothing
pub record HelloRefusal : Type 0 where
  pub read : (payload contents : List ℕ) (n : Refusal) → (read_call payload contents).answer ≡ Err n → (read_call payload contents).area ≡ contents
  pub write : (contents out : List ℕ) (n : Refusal) → (write_call contents out).answer ≡ Err n → (write_call contents out).area ≡ out
