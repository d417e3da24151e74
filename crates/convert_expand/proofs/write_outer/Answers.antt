-- `convert_expand::write_outer` meets its contract: the pieces, one after the other.
use Rattle.convert_expand.specs.Meaning.{outer_as}
use Rattle.convert_expand.proofs.Pieces.{outer_room, outer_written}
use native.Mathlib.Omega.{arith}
use Rattle.convert_expand.proofs.write_outer.Goals as goal

pub put_address-requires : goal.put_address-requires
put_address-requires c = omega (arith, outer_room (outer_as c.args.u) _ c.requires)

pub put_address-requires-2 : goal.put_address-requires-2
put_address-requires-2 c = omega (arith, outer_room (outer_as c.args.u) _ c.requires)

pub returns : goal.returns
returns c = search outer_written
