-- `flush_intervals::hit_parts` meets its contract. The invariant: what is hit and what is left make up the whole.
use Rattle.std.proofs.Common.{◌≡◌, false, not, nat_eq, ap, ◌∙◌, arith}
use Rattle.flush_intervals.proofs.Walks.{hit_done, hit_next, alone_past}
use Rattle.flush_intervals.proofs.hit_parts.Goals as goal

pub returns : goal.returns
returns g c =
    let last = c.in-None.ensures.steps in
    let size = c.loop-part.invariant.0 in
    hit_done _ _ _ c.span_for-k.ensures _ _ _ _ _ c.loop-part.invariant.1 (omega (arith, last.1.0))

pub loop-part-preserved-then-this-ne0 : goal.loop-part-preserved-then-this-ne0
loop-part-preserved-then-this-ne0 g c =
    let next = c.in-Some.ensures.steps in
    let size = c.loop-part.invariant.0 in
    (next.0 ∙ size, hit_next _ _ _ c.span_for-k.ensures _ _ _ _ _ c.loop-part.invariant.1 _ _ next.1.0 (next.1.1 ∙ size) _ _ c.low_at-s.ensures.0 c.past_at-e.ensures.0 _ c.hit_range.ensures)

pub loop-part-preserved : goal.loop-part-preserved
loop-part-preserved g c =
    let next = c.in-Some.ensures.steps in
    let size = c.loop-part.invariant.0 in
    let off : not (nat_eq g.row.BLOCKS 0) ≡ false = ap (λ n. not (nat_eq n 0)) c.if-this-ne0.false in
    let past = alone_past _ _ _ _ off c.low_at-s.ensures.0 in
    (next.0 ∙ size, hit_next _ _ _ c.span_for-k.ensures _ _ _ _ _ c.loop-part.invariant.1 _ _ next.1.0 (next.1.1 ∙ size) _ _ c.low_at-s.ensures.0 past _ c.hit_single.ensures)
