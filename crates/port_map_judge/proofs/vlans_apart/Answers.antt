-- `port_map_judge::vlans_apart` meets its contract: all pairs, each beside those after it.
use Rattle.std.proofs.Common.{◌*◌, ◌/◌, length, refl, rules, arith}
use Rattle.std.proofs.lemmas.Iterator.{YieldsList-from_range}
use Rattle.std.proofs.lemmas.Iterator.Search.{all_from_yields_List}
use Rattle.numbers.specs.Ranges.{vlan_good}
use Rattle.port_map.specs.Maps.{pair_bytes, vlan_of}
use Rattle.port_map_judge.specs.Meaning.{alone_at}
use Rattle.port_map_judge.proofs.Laws.{all_alone}
use Rattle.port_map_judge.proofs.vlans_apart.Goals as goal

pub returns : goal.returns
returns c =
    let m = c.args.map.now in
    all_alone vlan_good vlan_of m _
    (all_from_yields_List (λ i. alone_at vlan_good vlan_of m (pair_bytes * i)) _ _ c.all.result c.all.ensures.ran (YieldsList-from_range 0 (length m / pair_bytes) (length m / pair_bytes) refl (omega arith)) (λ x b q k. search rules))
