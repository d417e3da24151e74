-- `port_map_judge::note_vlan` meets its contract: bad, noted before, or noted now.
use Rattle.port_map_judge.proofs.Laws.{note_bad, vlan_room, note_again, note_new}
use Rattle.port_map_judge.proofs.note_vlan.Goals as goal

pub returns-then-not-vlan_good : goal.returns-then-not-vlan_good
returns-then-not-vlan_good c = search note_bad

pub has-requires : goal.has-requires
has-requires c = search vlan_room

pub returns-then-has : goal.returns-then-has
returns-then-has c = search note_again

pub add_number-requires : goal.add_number-requires
add_number-requires c = search vlan_room

pub returns : goal.returns
returns c = search note_new
