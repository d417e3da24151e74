-- `receive_channel::handle` meets its contract: each way out is an outcome of the definition.
use native.Mathlib.Omega.{arith}
use Rattle.std.proofs.lemmas.Result.{err_from_is_err_and}
use Rattle.frame_parse.specs.Meaning.{fields_in}
use Rattle.receive_channel.proofs.Laws.{cut_out, bad_out, other_out, corrupt_out, flushed_out, few_cleared}
use Rattle.table.proofs.Slots.{good_slots}
use Rattle.receive_channel.proofs.handle.Goals as goal

pub returns-then-c-lt-CHANNEL_BYTES : goal.returns-then-c-lt-CHANNEL_BYTES
returns-then-c-lt-CHANNEL_BYTES c =
    let a = c.args in
    let p = fields_in a.f.now a.p in
    λ o. cut_out a.s p a.v c.requires.1.0 a.table.now o _ c.after-c.ensures.0 c.if-c-lt-CHANNEL_BYTES.true

pub returns-then-not-channel_good : goal.returns-then-not-channel_good
returns-then-not-channel_good c =
    let a = c.args in
    let p = fields_in a.f.now a.p in
    λ o. bad_out a.s p a.v c.requires.1.0 a.table.now o _ c.after-c.ensures.0 c.if-c-lt-CHANNEL_BYTES.false _ c.channel_good.ensures c.if-not-channel_good.true

pub returns-then-channel_protocol-ne-FLUSH_PROTOCOL : goal.returns-then-channel_protocol-ne-FLUSH_PROTOCOL
returns-then-channel_protocol-ne-FLUSH_PROTOCOL c =
    let a = c.args in
    let p = fields_in a.f.now a.p in
    λ o. other_out a.s p a.v c.requires.1.0 a.table.now o _ c.after-c.ensures.0 c.if-c-lt-CHANNEL_BYTES.false _ c.channel_good.ensures c.if-not-channel_good.false _ c.channel_protocol.ensures c.if-channel_protocol-ne-FLUSH_PROTOCOL.true

pub clear_meant-requires : goal.clear_meant-requires
clear_meant-requires c = good_slots _ c.requires.1.1

pub overflow_cast-result : goal.overflow_cast-result
overflow_cast-result c =
    let few = few_cleared c.args.v.ingress _ c.args.table.now _ c.requires.1.1 _ c.in_ok-n.ensures in
    record { fits = omega (arith, few) }

pub returns-in_err-n : goal.returns-in_err-n
returns-in_err-n c =
    let a = c.args in
    let p = fields_in a.f.now a.p in
    let q = err_from_is_err_and c.from_residual.result c.from_residual.ensures.1 in
    rw (q.1, q.2)
    (λ o. corrupt_out a.s p a.v c.requires.1.0 a.table.now o _ c.after-c.ensures.0 c.if-c-lt-CHANNEL_BYTES.false _ c.channel_good.ensures c.if-not-channel_good.false _ c.channel_protocol.ensures c.if-channel_protocol-ne-FLUSH_PROTOCOL.false _ c.after-payload.ensures.0 _ _ c.in_err-n.ensures)

pub returns : goal.returns
returns c =
    let a = c.args in
    let p = fields_in a.f.now a.p in
    λ o. flushed_out a.s p a.v c.requires.1.0 a.table.now o _ c.after-c.ensures.0 c.if-c-lt-CHANNEL_BYTES.false _ c.channel_good.ensures c.if-not-channel_good.false _ c.channel_protocol.ensures c.if-channel_protocol-ne-FLUSH_PROTOCOL.false _ c.after-payload.ensures.0 _ _ c.in_ok-n.ensures
