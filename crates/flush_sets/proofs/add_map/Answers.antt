-- `flush_sets::add_map` meets its contract. The invariant: what was added and the rest of the map, whose first number is `n`, make up the whole.
use native.Mathlib.Omega.{arith}
use Rattle.flush_sets.proofs.Maps.{map_none, map_start, map_next, map_past, map_done, map_rest}
use Rattle.flush_sets.proofs.add_map.Goals as goal

pub returns-then-v-lt2 : goal.returns-then-v-lt2
returns-then-v-lt2 c = search map_none

pub loop-m-init : goal.loop-m-init
loop-m-init c = search map_start

pub returns-then-n-gt4095 : goal.returns-then-n-gt4095
returns-then-n-gt4095 c = search map_past

pub loop-m-preserved : goal.loop-m-preserved
loop-m-preserved c = map_next _ _ _ _ _ c.loop-m.invariant (omega arith) _ (rw (map_rest c.args.v.now) at c.add_shifted.ensures)

pub returns : goal.returns
returns c = map_done _ _ _ _ _ c.loop-m.invariant (rw (map_rest c.args.v.now) at c.loop-m-test.false)
