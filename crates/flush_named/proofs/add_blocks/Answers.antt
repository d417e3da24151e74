-- `flush_named::add_blocks` meets its contract. The invariant: a number of some block has its bit, or is of a block from block i on.
use Prim.Native.Nat.{◌/◌, ◌≤◌, ◌<◌}
use native.Mathlib.Omega.{arith}
use lib.ListN.{length}
use Rattle.flush_named.proofs.Laws.{adding_long, adding_full, items_start, items_done, items_next}
use Rattle.flush_named.proofs.add_blocks.Goals as goal

pub loop-i-init : goal.loop-i-init
loop-i-init c = search items_start

pub add-requires : goal.add-requires
add-requires c = search adding_long

pub returns-then-add : goal.returns-then-add
returns-then-add c = search adding_full

pub loop-i-preserved : goal.loop-i-preserved
loop-i-preserved c = let more : c.loop-i.i < length c.args.v.now / c.span_for-k.result = omega arith in search items_next

pub returns : goal.returns
returns c = let done : length c.args.v.now / c.span_for-k.result ≤ c.loop-i.i = omega arith in search items_done
