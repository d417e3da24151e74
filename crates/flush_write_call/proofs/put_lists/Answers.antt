-- `flush_write_call::put_lists` meets its contract: the three lists, one after the other.
use native.Mathlib.Omega.{arith}
use Rattle.flush_write.specs.Writing.{tlvs_bytes}
use Rattle.flush_write.specs.Areas.{blocks_in}
use Rattle.flush_write_call.proofs.Laws.{fill_vlans, fill_fines, fill_macs, first_room, second_room, third_room, three_put}
use Rattle.flush_write_call.proofs.put_lists.Goals as goal

pub put_tlvs-a-requires : goal.put_tlvs-a-requires
put_tlvs-a-requires c =
    ((fill_vlans, omega arith), first_room (tlvs_bytes 1 2 (blocks_in 2 c.args.vlans.now)) (tlvs_bytes 3 3 (blocks_in 4 c.args.fines.now)) (tlvs_bytes 8 6 (blocks_in 8 c.args.macs.now)) c.args.out.now c.args.at c.requires)

pub put_tlvs-b-requires : goal.put_tlvs-b-requires
put_tlvs-b-requires c =
    ((fill_fines, omega arith), second_room (tlvs_bytes 1 2 (blocks_in 2 c.args.vlans.now)) (tlvs_bytes 3 3 (blocks_in 4 c.args.fines.now)) (tlvs_bytes 8 6 (blocks_in 8 c.args.macs.now)) c.args.out.now c.args.at c.requires _ _ c.put_tlvs-a.ensures.0 c.put_tlvs-a.ensures.1)

pub put_tlvs-requires : goal.put_tlvs-requires
put_tlvs-requires c =
    ((fill_macs, omega arith), third_room (tlvs_bytes 1 2 (blocks_in 2 c.args.vlans.now)) (tlvs_bytes 3 3 (blocks_in 4 c.args.fines.now)) (tlvs_bytes 8 6 (blocks_in 8 c.args.macs.now)) c.args.out.now c.args.at c.requires _ _ c.put_tlvs-a.ensures.0 c.put_tlvs-a.ensures.1 _ _ c.put_tlvs-b.ensures.0 c.put_tlvs-b.ensures.1)

pub returns : goal.returns
returns c =
    three_put (tlvs_bytes 1 2 (blocks_in 2 c.args.vlans.now)) (tlvs_bytes 3 3 (blocks_in 4 c.args.fines.now)) (tlvs_bytes 8 6 (blocks_in 8 c.args.macs.now)) c.args.out.now c.args.at c.requires _ _ c.put_tlvs-a.ensures.0 c.put_tlvs-a.ensures.1 _ _ c.put_tlvs-b.ensures.0 c.put_tlvs-b.ensures.1 _ c.put_tlvs.ensures.0
