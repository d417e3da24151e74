-- `receive_deliver::write_tag` meets its contract: nothing, or 8100 and the number after it.
use native.Mathlib.Omega.{arith}
use Rattle.receive_deliver.proofs.Laws.{tag_untagged, tag_missing, tag_room, tag_written}
use Rattle.receive_deliver.proofs.write_tag.Goals as goal

pub put_number-requires : goal.put_number-requires
put_number-requires c =
    omega (arith, tag_room c.args.tag _ c.args.out.now c.in-Number.is c.requires)

pub put_number-requires-in-Number : goal.put_number-requires-in-Number
put_number-requires-in-Number c =
    omega (arith, tag_room c.args.tag _ c.args.out.now c.in-Number.is c.requires)

pub returns-in-Untagged : goal.returns-in-Untagged
returns-in-Untagged c = search tag_untagged

pub returns-in-Number : goal.returns-in-Number
returns-in-Number c = search tag_written

pub returns-in-Missing : goal.returns-in-Missing
returns-in-Missing c = search tag_missing
