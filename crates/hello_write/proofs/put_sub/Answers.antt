-- `hello_write::put_sub` meets its contract: each type by its own function.
use mathlib.Core.Path.{◌≡◌}
use Rattle.hello_entry.proofs.Puts.{parameters_inside, parameters_out, parameters_put, nicknames_most, nicknames-inside, nicknames_out, nicknames_put, trees_most, trees_inside, trees_out, trees_put, macs_label, macs_most, macs-inside, macs_out, macs_put}
use Rattle.hello_write.proofs.Walking.{section_last}
use Rattle.hello_write.proofs.put_sub.Goals as goal

pub put_parameters-requires : goal.put_parameters-requires
put_parameters-requires g c =
    let good = rw c.in-22.is at c.requires.1.0 in
    let room = rw c.in-22.is at c.requires.1.1 in
    (search parameters_inside, search parameters_out)

pub returns-in-22 : goal.returns-in-22
returns-in-22 g c = let good = rw c.in-22.is at c.requires.1.0 in rw c.in-22.is (search parameters_put)

pub put_nicknames-requires : goal.put_nicknames-requires
put_nicknames-requires g c =
    let count = rw c.in-6.is at c.requires.0.1 in
    let good = rw c.in-6.is at c.requires.1.0 in
    let room = rw c.in-6.is at c.requires.1.1 in
    (search nicknames_most, (search nicknames-inside, search nicknames_out))

pub returns-in-6 : goal.returns-in-6
returns-in-6 g c = let count = rw c.in-6.is at c.requires.0.1 in let good = rw c.in-6.is at c.requires.1.0 in rw c.in-6.is (search nicknames_put)

pub put_trees-requires : goal.put_trees-requires
put_trees-requires g c =
    let count = rw c.in-8.is at c.requires.0.1 in
    let good = rw c.in-8.is at c.requires.1.0 in
    let room = rw c.in-8.is at c.requires.1.1 in
    (search trees_most, (search trees_inside, search trees_out))

pub returns-in-8 : goal.returns-in-8
returns-in-8 g c = let count = rw c.in-8.is at c.requires.0.1 in let good = rw c.in-8.is at c.requires.1.0 in rw c.in-8.is (search trees_put)

pub put_smart_mac-requires : goal.put_smart_mac-requires
put_smart_mac-requires g c =
    let e : g.row.KIND ≡ 23 = search section_last in
    let count = rw e at c.requires.0.1 in
    let good = rw e at c.requires.1.0 in
    let room = rw e at c.requires.1.1 in
    (search macs_label, (search macs_most, (search macs-inside, search macs_out)))

pub returns-in_default : goal.returns-in_default
returns-in_default g c =
    let e : g.row.KIND ≡ 23 = search section_last in
    let count = rw e at c.requires.0.1 in
    let good = rw e at c.requires.1.0 in
    rw e (search macs_put)
