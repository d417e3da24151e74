-- `report_text::is_short` meets its contract: an area as long as the longest text is not short, any other is measured.
use Prim.Native.Nat.{ℕ}
use mathlib.Core.Path.{◌≡◌}
use native.Mathlib.Omega.{arith}
use borrow.Author.Tests.{ltb-true, ltb-false}
use Rattle.report_text.proofs.is_short.Goals as goal

pub returns-then-room-ge-LONGEST : goal.returns-then-room-ge-LONGEST
returns-then-room-ge-LONGEST c = (λ z. let y : ◌≡◌ {A = ℕ} 0 1 = cc in absurd (omega arith), λ z. omega arith)

pub returns : goal.returns
returns c =
    let long = c.text_length.ensures in
    let room = c.args.room in
    let n = c.text_length.result in
    (λ z. let l = ltb-true room n z in omega arith, λ z. let l = ltb-false room n z in omega arith)
