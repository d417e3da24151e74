-- One number below a limit, and two of them; an entry that is good.
-- Assumes nothing.
use Rattle.std.specs.Prelude.{ℕ, ◌<◌, ◌≤◌, Bool, List, ◌≡◌, leb, ltb, eqb, length}
use Rattle.numbers.specs.Tests.{both, either}
use Rattle.hello.specs.Area.{Taker, taken, take_one, then}
use Rattle.hello_area.specs.Entries.{via, take_sub, reach}

unfoldable pub take_below : ℕ → Taker ℕ
take_below top = via take_one (λ n. ltb n top) (λ n. n)

-- the limit of a field of two bytes, or of six
unfoldable pub field_top : ℕ → Bool
field_top top = either (eqb top 65536) (eqb top 281474976710656)

-- what a number v has over its limit: nothing exactly where it is below it
pub record Over (top v r : ℕ) : Type 0 where
  pub none : r ≡ 0 → v < top
  pub some : (r ≡ 0 → ⊥) → top ≤ v
  pub small : r < 281474976710656

pub record TwoNumbers : Type 0 where
  pub left : ℕ
  pub right : ℕ

unfoldable pub take_pair : Taker TwoNumbers
take_pair = then take_one λ x. then take_one λ y. taken (record { left = x; right = y })

unfoldable pub pair_below : ℕ → ℕ → TwoNumbers → Bool
pair_below a b x = both (ltb x.left a) (ltb x.right b)

-- two numbers below their limits
unfoldable pub take_two : ℕ → ℕ → Taker TwoNumbers
take_two a b = via take_pair (pair_below a b) (λ x. x)

-- the entry of a type at the number i is taken: it ends within the area
abbrev pub entry_good : ℕ → List ℕ → ℕ → Bool
entry_good k ns i = leb (reach (take_sub k) ns i) (length ns)
