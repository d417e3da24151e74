-- `hello_fill::put_words` meets its contract: each type by its own function.
use mathlib.Core.Path.{◌≡◌}
use Rattle.hello_fill.proofs.Subs.{four, room_22, puts_22, fives, room_6, puts_6, two, twos, room_8, puts_8, mac_long, sixes, room_23, puts_23, read_last}
use Rattle.hello_fill.proofs.put_words.Goals as goal

pub put_parameters-requires : goal.put_parameters-requires
put_parameters-requires g c = (search four, search room_22)

pub returns-in-22 : goal.returns-in-22
returns-in-22 g c = search puts_22

pub put_nicknames-requires : goal.put_nicknames-requires
put_nicknames-requires g c = (search fives, search room_6)

pub returns-in-6 : goal.returns-in-6
returns-in-6 g c = search puts_6

pub put_trees-requires : goal.put_trees-requires
put_trees-requires g c = (search two, (search twos, search room_8))

pub returns-in-8 : goal.returns-in-8
returns-in-8 g c = search puts_8

pub put_smart_mac-requires : goal.put_smart_mac-requires
put_smart_mac-requires g c =
    let e : g.row.KIND ≡ 23 = search read_last in
    (search mac_long, (search sixes, search room_23))

pub returns-in_default : goal.returns-in_default
returns-in_default g c = let e : g.row.KIND ≡ 23 = search read_last in search puts_23
