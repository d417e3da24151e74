-- `report_gather::count_all` meets its contract. The invariant: the first n tallies and those of the set are of the keys of the first i slots.
use Prim.Native.Nat.{◌/◌}
use mathlib.Core.List.{◌++◌}
use mathlib.Core.Path.{◌≡◌, ap}
use native.Mathlib.Omega.{arith}
use lib.ListN.{length, take}
use Rattle.table.specs.Slots.{slot_bytes}
use Rattle.report_set.specs.Set.{set_tallies}
use Rattle.report_gather.proofs.Laws.{none_yet, few_counted, slot_counted}
use borrow.Author.Rules.{rules}
use Rattle.report_gather.proofs.count_all.Goals as goal

pub loop-i-init : goal.loop-i-init
loop-i-init c =
    let none = ap length c.requires.1.1 in
    (omega arith, none_yet _ c.args.tallies.now _ c.requires.1.1)

pub add-n-requires : goal.add-n-requires
add-n-requires c =
    let at = c.loop-i in
    let a = c.args in
    let few = few_counted a.table.now (take at.n at.tallies) (set_tallies 0 at.s) at.i c.key_at-k.result at.invariant.1 in
    ((search rules, (search rules, search rules)), (omega arith, (omega arith, omega arith)))

pub loop-i-preserved : goal.loop-i-preserved
loop-i-preserved c =
    let at = c.loop-i in
    let a = c.args in
    let key = c.key_at-k in
    let add = c.add-n in
    let more = add.ensures.0 in
    (omega arith, slot_counted a.table.now (take at.n at.tallies ++ set_tallies 0 at.s) _ at.i key.result at.invariant.1 key.ensures.0 add.ensures.1)

pub returns : goal.returns
returns c =
    let a = c.args in
    let at = c.loop-i in
    let done : at.i ≡ length a.table.now / slot_bytes = omega arith in
    (omega arith, rw done at at.invariant.1)
