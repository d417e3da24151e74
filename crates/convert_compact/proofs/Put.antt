-- A frame put at the start of an area: 16, or written.
-- Assumes nothing.
use Prim.Native.Nat.{ℕ, ◌≤◌, ◌<◌}
use mathlib.Core.List.{List}
use mathlib.Core.Path.{◌≡◌}
use lib.ListN.{length}
use borrow.Author.Tests.{le-leb, lt-leb}
use Rattle.numbers.specs.Result.{check, settled}
use Rattle.numbers.specs.After.{on_area}
use Rattle.numbers.specs.Bytes.{laid}
use Rattle.convert.specs.Compaction.{written}
use Rattle.convert_compact.specs.Meaning.{put_on, filled}
use Rattle.std.specs.Prelude.{Ok, Err}
use Rattle.numbers.specs.declared.refusals.Refusal.TheVariants.{AreaShort}

module _ (b area : List ℕ) (n : ℕ) (long : length b ≡ n) where
  pub put_short : length area < n → on_area (Err AreaShort) area ≡ put_on b area
  unfolding put_on written check settled
  put_short h = rw (long, lt-leb n (length area) h)

  pub put_written : n ≤ length area → (o : List ℕ) → o ≡ laid b area → on_area (Ok n) o ≡ put_on b area
  unfolding put_on written check settled
  put_written h o e = rw (long, le-leb n (length area) h, e)

  pub fill_written : (o : List ℕ) → o ≡ laid b area → on_area n o ≡ filled b area
  fill_written o e = rw (long, e)
