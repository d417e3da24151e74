-- `frame_fields::has_ethertype` meets its contract: the bytes at the offset.
use Prim.Native.Nat.{◌/◌, ◌%◌}
use Rattle.frame_fields.proofs.Laws.{starts_at}
use Rattle.frame_fields.proofs.has_ethertype.Goals as goal

pub returns : goal.returns
returns c =
    let a = c.args in
    rw (c.wide.ensures.0, c.wide-2.ensures.0) (starts_at a.l.now a.k (a.t / 256) (a.t % 256))
