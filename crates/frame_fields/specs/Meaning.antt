-- What the code's own answers mean, in the terms of frame/specs.
-- Assumes nothing.
use Rattle.std.specs.Prelude.{ℕ, eqb}
use Rattle.numbers.specs.Tests.{pick}
use Rattle.frame.specs.Front as spec
use Rattle.frame_fields.specs.declared.Front.{Front}
use Rattle.frame_fields.specs.declared.Front.TheVariants as front

abbrev pub front_as : Front → spec.Front
front_as front.Unicast = spec.unicast
front_as front.Multicast = spec.multicast
front_as front.Refused = spec.refused_front
front_as front.Inner = spec.inner

-- `front_of`, of which only the port address is used
unfoldable pub front_at : ℕ → ℕ → spec.Front
front_at port a =
    pick (eqb a port) spec.unicast
    (pick (eqb a spec.all_rbridges) spec.multicast
    (pick (spec.front_refused a) spec.refused_front spec.inner))
