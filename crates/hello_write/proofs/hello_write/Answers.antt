-- `hello_write::hello_write` meets its contract: each way out is an outcome of the definition.
use mathlib.Core.Path.{refl}
use Rattle.hello_write.proofs.Calls.{refused_way, ends_within, short_way, written_room, written_way}
use Rattle.hello_write.proofs.Sizing.{size_known}
use Rattle.hello_write.proofs.hello_write.Goals as goal

pub returns-in-Err : goal.returns-in-Err
returns-in-Err c = refused_way _ _ _ _ c.in-Err.ensures.0 refl

pub returns-then-out-n : goal.returns-then-out-n
returns-then-out-n c = short_way _ _ c.in-Ok.ensures.0 refl _ _ (size_known _ _ c.in-Ok.ensures.1 _ refl) c.if-out-n.true

pub put_payload-requires : goal.put_payload-requires
put_payload-requires c =
    let n = c.in-Ok.ensures in
    (ends_within _ _ n.0 refl, written_room _ _ n.0 refl _ _ (size_known _ _ n.1 _ refl) c.if-out-n.false)

pub returns : goal.returns
returns c =
    let n = c.in-Ok.ensures in
    written_way _ _ n.0 refl _ _ (size_known _ _ n.1 _ refl) c.if-out-n.false _ c.put_payload.ensures
