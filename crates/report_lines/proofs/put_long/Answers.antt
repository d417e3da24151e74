-- `report_lines::put_long` meets its contract: nickname, two counts and the line feed, one after the other.
use Prim.Native.Nat.{◌≤◌}
use lib.ListN.{length}
use native.Mathlib.Omega.{arith}
use Rattle.report.proofs.Digits.{length_line}
use Rattle.report_lines.proofs.Laws.{line_pasted, line_end}
use Rattle.report_lines.proofs.put_long.Goals as goal

pub put_hexadecimal-requires : goal.put_hexadecimal-requires
put_hexadecimal-requires c =
    let l = length_line c.args.x c.args.l c.args.c in
    omega arith

pub put_after-b-requires : goal.put_after-b-requires
put_after-b-requires c =
    let l = length_line c.args.x c.args.l c.args.c in
    omega arith

pub put_after-e-requires : goal.put_after-e-requires
put_after-e-requires c =
    let l = length_line c.args.x c.args.l c.args.c in
    omega arith

pub put-requires : goal.put-requires
put-requires c =
    let l = length_line c.args.x c.args.l c.args.c in
    omega arith

pub overflow_add-result : goal.overflow_add-result
overflow_add-result c =
    let l = length_line c.args.x c.args.l c.args.c in
    omega arith

pub returns : goal.returns
returns c =
    let a = c.args in
    let l = length_line a.x a.l a.c in
    let one = c.put_after-b in
    let two = c.put_after-e in
    let h : a.at ≤ length a.out.now = omega arith in (
      line_pasted a.out.now _ _ _ _ a.x a.l a.c a.at one.result two.result h c.put_hexadecimal.ensures one.ensures.0 one.ensures.1 two.ensures.0 two.ensures.1 c.put.ensures,
      line_end a.out.now _ _ _ _ a.x a.l a.c a.at one.result two.result h c.put_hexadecimal.ensures one.ensures.0 one.ensures.1 two.ensures.0 two.ensures.1 c.put.ensures,
    )
