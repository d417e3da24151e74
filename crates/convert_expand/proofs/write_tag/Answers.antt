-- `convert_expand::write_tag` meets its contract: nothing, or 8100 and the number after it.
use native.Mathlib.Omega.{arith}
use Rattle.convert_expand.specs.Meaning.{outer_as}
use Rattle.convert_expand.proofs.Pieces.{tag_none, tag_room, tag_written}
use Rattle.convert_expand.proofs.write_tag.Goals as goal

pub returns-then-u-eq-UNTAGGED : goal.returns-then-u-eq-UNTAGGED
returns-then-u-eq-UNTAGGED c = search tag_none

pub put_number-requires : goal.put_number-requires
put_number-requires c =
    omega (arith, tag_room (outer_as c.args.u) c.args.out.now c.if-u-eq-UNTAGGED.false c.requires)

pub put_number-requires-2 : goal.put_number-requires-2
put_number-requires-2 c =
    omega (arith, tag_room (outer_as c.args.u) c.args.out.now c.if-u-eq-UNTAGGED.false c.requires)

pub returns : goal.returns
returns c = search tag_written
