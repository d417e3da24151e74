-- Refusal 14 of the content and the inner destination.
-- Assumes nothing.
use Rattle.std.specs.Prelude.{ℕ, Bool, List, eqb}
use Rattle.numbers.specs.Tests.{both, either}
use Rattle.frame.specs.Front.{all_egress_rbridges}
use Rattle.receive.specs.Deciding.{channel_version, channel_error}

-- `channel_good` at a port's own inner address, of the content and of the inner destination
unfoldable pub channel_of : ℕ → List ℕ → ℕ → Bool
channel_of inner c dst =
    both (eqb (channel_version c) 0)
    (both (eqb (channel_error c) 0)
    (either (eqb dst inner) (eqb dst all_egress_rbridges)))
