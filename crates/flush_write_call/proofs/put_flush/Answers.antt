-- `flush_write_call::put_flush` meets its contract: the front, and the body of the form.
use native.Mathlib.Omega.{arith}
use Prim.Native.Nat.{◌/◌}
use lib.ListN.{length}
use Rattle.numbers.specs.Bytes.{AreBytes}
use Rattle.flush_write.specs.Writing.{blocks_bytes, flush_bytes}
use Rattle.flush_write.specs.Areas.{blocks_in, asked_in}
use Rattle.flush_write_call.specs.Steps.{lists_bytes}
use Rattle.flush_write_call.proofs.Laws.{item_2, block_shape, tlv_shape, front_room, body_room, body_put}
use Rattle.flush_write_call.proofs.put_flush.Goals as goal

pub put_front-a-requires : goal.put_front-a-requires
put_front-a-requires c =
    let known : AreBytes c.args.nicks.now = λ i. (c.shared_slice_known-1.given i).fits in
    let few = c.requires.0.nicks.few in
    let v = c.requires.0.vlans.few in
    let w = c.requires.0.nicks.whole in
    ((omega arith, omega arith), front_room c.args.nicks.now c.args.out.now (blocks_bytes 2 (blocks_in 2 c.args.vlans.now)) (flush_bytes (asked_in c.args.nicks.now c.args.vlans.now c.args.fines.now c.args.macs.now)) (length c.args.vlans.now / 4) (block_shape c.args.nicks.now c.args.vlans.now c.args.fines.now c.args.macs.now c.requires.0 known c.if-fines-macs.true) c.requires.1)

pub put_blocks-requires : goal.put_blocks-requires
put_blocks-requires c =
    let known : AreBytes c.args.nicks.now = λ i. (c.shared_slice_known-1.given i).fits in
    ((item_2, omega arith), body_room c.args.nicks.now c.args.out.now (blocks_bytes 2 (blocks_in 2 c.args.vlans.now)) (flush_bytes (asked_in c.args.nicks.now c.args.vlans.now c.args.fines.now c.args.macs.now)) (length c.args.vlans.now / 4) (block_shape c.args.nicks.now c.args.vlans.now c.args.fines.now c.args.macs.now c.requires.0 known c.if-fines-macs.true) c.requires.1 _ _ c.put_front-a.ensures.0 c.put_front-a.ensures.1)

pub returns-then-fines-macs : goal.returns-then-fines-macs
returns-then-fines-macs c =
    let known : AreBytes c.args.nicks.now = λ i. (c.shared_slice_known-1.given i).fits in
    body_put c.args.nicks.now c.args.out.now (blocks_bytes 2 (blocks_in 2 c.args.vlans.now)) (flush_bytes (asked_in c.args.nicks.now c.args.vlans.now c.args.fines.now c.args.macs.now)) (length c.args.vlans.now / 4) (block_shape c.args.nicks.now c.args.vlans.now c.args.fines.now c.args.macs.now c.requires.0 known c.if-fines-macs.true) c.requires.1 _ _ c.put_front-a.ensures.0 c.put_front-a.ensures.1 _ c.put_blocks.ensures

pub put_front-b-requires : goal.put_front-b-requires
put_front-b-requires c =
    let known : AreBytes c.args.nicks.now = λ i. (c.shared_slice_known-1.given i).fits in
    let few = c.requires.0.nicks.few in
    let w = c.requires.0.nicks.whole in
    ((omega arith, omega arith), front_room c.args.nicks.now c.args.out.now (lists_bytes c.args.vlans.now c.args.fines.now c.args.macs.now) (flush_bytes (asked_in c.args.nicks.now c.args.vlans.now c.args.fines.now c.args.macs.now)) 0 (tlv_shape c.args.nicks.now c.args.vlans.now c.args.fines.now c.args.macs.now c.requires.0 known c.if-fines-macs.false) c.requires.1)

pub put_lists-requires : goal.put_lists-requires
put_lists-requires c =
    let known : AreBytes c.args.nicks.now = λ i. (c.shared_slice_known-1.given i).fits in
    body_room c.args.nicks.now c.args.out.now (lists_bytes c.args.vlans.now c.args.fines.now c.args.macs.now) (flush_bytes (asked_in c.args.nicks.now c.args.vlans.now c.args.fines.now c.args.macs.now)) 0 (tlv_shape c.args.nicks.now c.args.vlans.now c.args.fines.now c.args.macs.now c.requires.0 known c.if-fines-macs.false) c.requires.1 _ _ c.put_front-b.ensures.0 c.put_front-b.ensures.1

pub returns : goal.returns
returns c =
    let known : AreBytes c.args.nicks.now = λ i. (c.shared_slice_known-1.given i).fits in
    body_put c.args.nicks.now c.args.out.now (lists_bytes c.args.vlans.now c.args.fines.now c.args.macs.now) (flush_bytes (asked_in c.args.nicks.now c.args.vlans.now c.args.fines.now c.args.macs.now)) 0 (tlv_shape c.args.nicks.now c.args.vlans.now c.args.fines.now c.args.macs.now c.requires.0 known c.if-fines-macs.false) c.requires.1 _ _ c.put_front-b.ensures.0 c.put_front-b.ensures.1 _ c.put_lists.ensures
