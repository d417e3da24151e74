-- `flush_named::add_singles` meets its contract. The invariant: a number of the list has its bit, or is one from number i on.
use Prim.Native.Nat.{◌/◌, ◌≤◌, ◌<◌}
use native.Mathlib.Omega.{arith}
use lib.ListN.{length}
use Rattle.flush_parts.proofs.Parts.{single_past}
use Rattle.flush_named.proofs.Laws.{adding_long, items_start, items_done, items_next}
use Rattle.flush_named.proofs.add_singles.Goals as goal

pub loop-i-init : goal.loop-i-init
loop-i-init c = search items_start

pub add_single-requires : goal.add_single-requires
add_single-requires c = search adding_long

pub loop-i-preserved : goal.loop-i-preserved
loop-i-preserved c = let more : c.loop-i.i < length c.args.v.now / c.span_for-k.result = omega arith in search (items_next, single_past _ _ _ c.low_at-x.ensures.0)

pub returns : goal.returns
returns c = let done : length c.args.v.now / c.span_for-k.result ≤ c.loop-i.i = omega arith in search items_done
