-- `report_text::text_length` meets its contract.
use native.Mathlib.Omega.{arith}
use Rattle.report_text.proofs.Laws.{length_whole}
use Rattle.report_text.proofs.text_length.Goals as goal

pub lines_length-requires : goal.lines_length-requires
lines_length-requires c =
    let whole = length_whole c.args.v.now c.args.free c.args.spoilt in
    (c.requires.0, omega arith)

pub overflow_add-result : goal.overflow_add-result
overflow_add-result c =
    let whole = length_whole c.args.v.now c.args.free c.args.spoilt in
    omega arith

pub overflow_add-result-2 : goal.overflow_add-result-2
overflow_add-result-2 c =
    let whole = length_whole c.args.v.now c.args.free c.args.spoilt in
    omega arith

pub overflow_add-result-3 : goal.overflow_add-result-3
overflow_add-result-3 c =
    let whole = length_whole c.args.v.now c.args.free c.args.spoilt in
    omega arith

pub returns : goal.returns
returns c =
    let whole = length_whole c.args.v.now c.args.free c.args.spoilt in
    omega arith
