-- `report_lines::put_short` meets its contract: eight bytes as one number, and the line feed.
use native.Mathlib.Omega.{arith}
use Rattle.report_lines.proofs.Laws.{short_length, short_pasted}
use Rattle.report_lines.proofs.put_short.Goals as goal

pub put_word-requires : goal.put_word-requires
put_word-requires c =
    let n = short_length c.args.x c.args.l c.args.c c.requires.0.0 c.requires.0.1 in
    omega arith

pub overflow_add-at : goal.overflow_add-at
overflow_add-at c =
    let n = short_length c.args.x c.args.l c.args.c c.requires.0.0 c.requires.0.1 in
    omega arith

pub put-requires : goal.put-requires
put-requires c =
    let n = short_length c.args.x c.args.l c.args.c c.requires.0.0 c.requires.0.1 in
    omega arith

pub overflow_add-result : goal.overflow_add-result
overflow_add-result c =
    let n = short_length c.args.x c.args.l c.args.c c.requires.0.0 c.requires.0.1 in
    omega arith

pub returns : goal.returns
returns c =
    let n = short_length c.args.x c.args.l c.args.c c.requires.0.0 c.requires.0.1 in
    (short_pasted c.args.out.now _ _ c.args.at c.args.x c.args.l c.args.c c.hexadecimal_word.result (omega arith) c.requires.0.0 c.requires.0.1 c.hexadecimal_word.ensures.0 c.put_word.ensures c.put.ensures, omega arith)
