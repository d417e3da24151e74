-- `report_call::write_tallies` meets its contract.
use native.Mathlib.Omega.{arith}
use Rattle.report_text.proofs.Laws.{length_whole}
use Rattle.report_call.proofs.Laws.{width_few, tallies_written}
use Rattle.report_call.proofs.write_tallies.Goals as goal

pub write-requires : goal.write-requires
write-requires c =
    let f = c.times-free in
    let s = c.times-spoilt in
    let free = f.ensures in
    let spoilt = s.ensures in
    let whole = length_whole c.args.v.now f.result s.result in
    let wf = width_few f.result in
    let ws = width_few s.result in
    (c.requires.0, omega arith)

pub returns : goal.returns
returns c =
    let a = c.args in
    let free = c.times-free in
    let spoilt = c.times-spoilt in
    tallies_written _ a.v.now free.result spoilt.result a.out.now c.write.ensures free.ensures spoilt.ensures
