-- `ingress_call::write_general` meets its contract: each piece right after the one before.
use Rattle.ingress_call.proofs.Pieces.{general-written}
use Rattle.ingress_call.proofs.write_general.Goals as goal

pub returns : goal.returns
returns c =
    let a = c.args in
    general-written a.u a.priority a.l a.f.now a.out.now c.requires.0.0 _ _ _ _ _ _ _ c.write_outer.ensures c.write_header.ensures c.part.ensures.0 c.copy_block.ensures c.write_label.ensures c.after-content.ensures.0 c.copy_block-2.ensures
