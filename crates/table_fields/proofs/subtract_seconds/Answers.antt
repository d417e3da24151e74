-- `table_fields::subtract_seconds` meets its contract: fewer seconds than there are borrow from no other field.
use Prim.Native.Nat.{ℕ, ◌-◌}
use mathlib.Core.Path.{sym, ap, ◌∙◌}
use native.Mathlib.Omega.{arith}
use Rattle.numbers.specs.Bytes.{bytes_of, AreBytes}
use Rattle.numbers.proofs.Bytes.{length_part}
use Rattle.numbers.proofs.Truth.{pick_true, pick_false}
use Rattle.table_fields.proofs.Laws.{run_out, some_left, less_seconds_lem}
use Rattle.table_fields.proofs.subtract_seconds.Goals as goal

pub returns-then-w-s : goal.returns-then-w-s
returns-then-w-s c =
    let a = c.args in
    let known : AreBytes a.slot.now = λ i. (c.slice_known-1.given i).fits in
    let out = run_out a.slot.now known c.requires a.s _ c.be2-w.ensures.0 c.if-w-s.true in
    (sym out, sym (pick_true _ _ _ out))

pub returns : goal.returns
returns c =
    let a = c.args in
    let known : AreBytes a.slot.now = λ i. (c.slice_known-1.given i).fits in
    let be2 = c.be2-w in
    let more = c.if-w-s.false in
    let left = some_left a.slot.now known c.requires a.s _ be2.ensures.0 more in
    let filled = c.fill.ensures ∙ ap (λ (k : ℕ). bytes_of k (be2.result - a.s)) (length_part a.slot.now 12 2 (omega (arith, c.requires))) in
    (sym left, less_seconds_lem a.slot.now known c.requires a.s _ be2.ensures.0 more _ filled ∙ sym (pick_false _ _ _ left))
