-- `flush_write_lists::put_tlvs` meets its contract. The invariant: the TLVs that are left, written at `to`, make the area that is asked for.
use native.Mathlib.Omega.{arith}
use Rattle.flush_write_lists.proofs.Laws.{tlvs_start, part_inside, part_some, tlv_requires, tlvs_next, tlvs-area, tlvs_end}
use Rattle.flush_write_lists.proofs.put_tlvs.Goals as goal

pub loop-from-init : goal.loop-from-init
loop-from-init c = search tlvs_start

pub overflow_mul-k : goal.overflow_mul-k
overflow_mul-k c = let k = c.loop-from.invariant.fill.item.most in omega arith

pub overflow_sub-l : goal.overflow_sub-l
overflow_sub-l c = let i = c.loop-from.invariant.inside in omega arith

pub overflow_sub-l-in-loop-from : goal.overflow_sub-l-in-loop-from
overflow_sub-l-in-loop-from c = let i = c.loop-from.invariant.inside in omega arith

pub part-requires : goal.part-requires
part-requires c = search part_inside

pub put_tlv-to-requires : goal.put_tlv-to-requires
put_tlv-to-requires c =
    tlv_requires _ _ _ _ _ _ _ _ _ _ c.loop-from.invariant c.loop-from-test.true _ c.min-n.ensures _ c.part.ensures.0

pub overflow_add-from : goal.overflow_add-from
overflow_add-from c =
    let f = part_inside _ _ _ _ _ _ _ _ _ _ c.loop-from.invariant c.loop-from-test.true _ c.min-n.ensures in
    omega arith

pub loop-from-smaller : goal.loop-from-smaller
loop-from-smaller c =
    let f = part_inside _ _ _ _ _ _ _ _ _ _ c.loop-from.invariant c.loop-from-test.true _ c.min-n.ensures in
    let o = part_some _ _ _ _ _ _ _ _ _ _ c.loop-from.invariant c.loop-from-test.true _ c.min-n.ensures in
    omega arith

pub loop-from-preserved : goal.loop-from-preserved
loop-from-preserved c = search tlvs_next

pub returns : goal.returns
returns c = (search tlvs-area, search tlvs_end)
