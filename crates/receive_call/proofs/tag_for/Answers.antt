-- `receive_call::tag_for` meets its contract: nothing was asked, no pair, or the VLAN found.
use Rattle.receive_call.proofs.Laws.{tag_plain, tag_missing, tag_found}
use Rattle.receive_call.proofs.tag_for.Goals as goal

pub returns-in-Nothing : goal.returns-in-Nothing
returns-in-Nothing c = tag_plain c.args.map.now _ c.in-Nothing.is

pub returns-in-None : goal.returns-in-None
returns-in-None c =
    tag_missing c.args.map.now c.requires c.args.w c.in-Vlan.label c.in-Vlan.second c.in-Vlan.is _ c.vlan_for-found.ensures c.in-None.is

pub returns-in-Some : goal.returns-in-Some
returns-in-Some c =
    tag_found c.args.map.now c.requires c.args.w c.in-Vlan.label c.in-Vlan.second c.in-Vlan.is _ c.vlan_for-found.ensures _ c.in-Some.is
