-- `report_lines::put_single` meets its contract: a short line.
use mathlib.Core.Path.{refl}
use Rattle.report_lines.proofs.Laws.{some_room, some_put}
use borrow.Author.Rules.{rules}
use Rattle.report_lines.proofs.put_single.Goals as goal

pub put_short-requires : goal.put_short-requires
put_short-requires c =
    ((search rules, search rules), some_room 1 0 refl c.args.x c.args.at _ c.requires)

pub returns : goal.returns
returns c =
    let a = c.args in
    some_put 1 0 refl a.x a.at _ a.out.now _ c.put_short.ensures.0 c.put_short.ensures.1
