-- `flush_sets::add_blocks` meets its contract. The invariant: what was added and the blocks that are left make up the whole.
use mathlib.Core.Path.{◌∙◌}
use native.Mathlib.Omega.{arith}
use Rattle.flush_sets.proofs.Adding.{blocks_next, blocks_done}
use Rattle.flush_sets.proofs.add_blocks.Goals as goal

pub loop-block-preserved : goal.loop-block-preserved
loop-block-preserved c =
    let i = c.loop-block.invariant in
    let e = c.in-Some.ensures.steps in
    (e.0 ∙ i.0, blocks_next _ _ _ _ i.1 _ _ e.1.0 (e.1.1 ∙ i.0) _ c.add_block.ensures)

pub returns : goal.returns
returns c =
    let i = c.loop-block.invariant in
    let e = c.in-None.ensures.steps in
    blocks_done _ _ _ _ i.1 (omega (arith, i.0, e.1.0))
