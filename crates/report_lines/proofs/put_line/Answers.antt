-- `report_lines::put_line` meets its contract: no line, a long one, or a short one.
use Rattle.report_lines.proofs.Laws.{some_room, some_put, none_put}
use Rattle.report_lines.proofs.put_line.Goals as goal

pub returns-then-l-c : goal.returns-then-l-c
returns-then-l-c c =
    let a = c.args in
    none_put a.l a.c c.if-l-c.true a.x a.at a.out.now

pub put_long-requires : goal.put_long-requires
put_long-requires c =
    some_room c.args.l c.args.c c.if-l-c.false c.args.x c.args.at _ c.requires

pub returns-then-l-gt9 : goal.returns-then-l-gt9
returns-then-l-gt9 c =
    let a = c.args in
    some_put a.l a.c c.if-l-c.false a.x a.at _ a.out.now _ c.put_long.ensures.0 c.put_long.ensures.1

pub put_long-requires-then-c-gt9 : goal.put_long-requires-then-c-gt9
put_long-requires-then-c-gt9 c =
    some_room c.args.l c.args.c c.if-l-c.false c.args.x c.args.at _ c.requires

pub returns-then-c-gt9 : goal.returns-then-c-gt9
returns-then-c-gt9 c =
    let a = c.args in
    some_put a.l a.c c.if-l-c.false a.x a.at _ a.out.now _ c.put_long-then-c-gt9.ensures.0 c.put_long-then-c-gt9.ensures.1

pub put_short-requires : goal.put_short-requires
put_short-requires c =
    ((c.if-l-gt9.false, c.if-c-gt9.false), some_room c.args.l c.args.c c.if-l-c.false c.args.x c.args.at _ c.requires)

pub returns : goal.returns
returns c =
    let a = c.args in
    some_put a.l a.c c.if-l-c.false a.x a.at _ a.out.now _ c.put_short.ensures.0 c.put_short.ensures.1
