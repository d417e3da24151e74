-- `flush_write_lists::put_tlv` meets its contract: type and length, and then the blocks.
use native.Mathlib.Omega.{arith}
use Rattle.flush_write.specs.Writing.{blocks_bytes}
use Rattle.flush_write.specs.Areas.{blocks_in}
use Rattle.flush_write_lists.proofs.Laws.{value_length, tlv_length_lem, tlv_put}
use borrow.Author.Rules.{rules}
use Rattle.flush_write_lists.proofs.put_tlv.Goals as goal

pub overflow_mul-n-3 : goal.overflow_mul-n-3
overflow_mul-n-3 c =
    let v = value_length c.args.k c.args.size c.requires.0.0.0 c.args.l.now in
    let t = tlv_length_lem c.args.kind (blocks_bytes c.args.size (blocks_in c.args.k c.args.l.now)) in
    omega arith

pub overflow_add-kind : goal.overflow_add-kind
overflow_add-kind c =
    let v = value_length c.args.k c.args.size c.requires.0.0.0 c.args.l.now in
    let t = tlv_length_lem c.args.kind (blocks_bytes c.args.size (blocks_in c.args.k c.args.l.now)) in
    omega arith

pub put_number-requires : goal.put_number-requires
put_number-requires c =
    let v = value_length c.args.k c.args.size c.requires.0.0.0 c.args.l.now in
    let t = tlv_length_lem c.args.kind (blocks_bytes c.args.size (blocks_in c.args.k c.args.l.now)) in
    omega arith

pub overflow_add-at : goal.overflow_add-at
overflow_add-at c =
    let v = value_length c.args.k c.args.size c.requires.0.0.0 c.args.l.now in
    let t = tlv_length_lem c.args.kind (blocks_bytes c.args.size (blocks_in c.args.k c.args.l.now)) in
    omega arith

pub put_blocks-requires : goal.put_blocks-requires
put_blocks-requires c =
    let v = value_length c.args.k c.args.size c.requires.0.0.0 c.args.l.now in
    let t = tlv_length_lem c.args.kind (blocks_bytes c.args.size (blocks_in c.args.k c.args.l.now)) in
    ((search rules, search rules), omega arith)

pub overflow_add-result : goal.overflow_add-result
overflow_add-result c =
    let v = value_length c.args.k c.args.size c.requires.0.0.0 c.args.l.now in
    let t = tlv_length_lem c.args.kind (blocks_bytes c.args.size (blocks_in c.args.k c.args.l.now)) in
    omega arith

pub overflow_add-result-2 : goal.overflow_add-result-2
overflow_add-result-2 c =
    let v = value_length c.args.k c.args.size c.requires.0.0.0 c.args.l.now in
    let t = tlv_length_lem c.args.kind (blocks_bytes c.args.size (blocks_in c.args.k c.args.l.now)) in
    omega arith

pub returns : goal.returns
returns c =
    let v = value_length c.args.k c.args.size c.requires.0.0.0 c.args.l.now in
    tlv_put _ _ _ _ _ _ _ c.requires.0.1.0 c.requires.0.1.1 v c.requires.1 c.put_number.ensures c.put_blocks.ensures
