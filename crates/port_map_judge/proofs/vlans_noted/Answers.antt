-- `port_map_judge::vlans_noted` meets its contract. The invariant: the bits are those of the VLANs from pair `i` on, which are good and stand once.
use Rattle.port_map_judge.proofs.Laws.{seen_start, seen_in, seen_bad, seen_next, seen_done}
use borrow.Author.Rules.{rules}
use Rattle.port_map_judge.proofs.vlans_noted.Goals as goal

pub loop-i-init : goal.loop-i-init
loop-i-init c = search seen_start

pub note_vlan-requires : goal.note_vlan-requires
note_vlan-requires c = (search seen_in, search rules)

pub returns-then-not-note_vlan : goal.returns-then-not-note_vlan
returns-then-not-note_vlan c = search seen_bad

pub loop-i-preserved : goal.loop-i-preserved
loop-i-preserved c = search seen_next

pub returns : goal.returns
returns c = search seen_done
