-- What the code's own steps mean, in the terms of convert/specs.
-- Assumes nothing.
use Rattle.std.specs.Prelude.{Bool, List, ℕ, Option, Err}
use Rattle.numbers.specs.Result.{settled, Outcome}
use Rattle.numbers.specs.After.{OnArea, on_area}
use Rattle.frame.specs.declared.Settings.{Settings}
use Rattle.convert.specs.Sending.{sending}

-- the sending call, `on` being whether the far port has Compact on
unfoldable pub sent_where : Bool → Settings → List ℕ → List ℕ → OnArea (Outcome (Option ℕ))
sent_where on s f work = settled (λ n. on_area (Err n) work) (sending on s f work)
