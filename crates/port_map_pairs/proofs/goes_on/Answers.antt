-- `port_map_pairs::goes_on` meets its contract: each case of what is found.
use Rattle.numbers.specs.Tests.{both}
use Rattle.port_map_pairs.specs.Scan.{goes_on}
use Rattle.port_map_pairs.proofs.goes_on.Goals as goal

pub returns-in-Nothing : goal.returns-in-Nothing
unfolding goes_on both
returns-in-Nothing c = rw c.in-Nothing.is

pub returns-in-Vlan : goal.returns-in-Vlan
unfolding goes_on both
returns-in-Vlan c = rw c.in-Vlan.is

pub returns-in-Label : goal.returns-in-Label
unfolding goes_on both
returns-in-Label c = rw c.in-Label.is

pub returns-in-Twin : goal.returns-in-Twin
unfolding goes_on both
returns-in-Twin c = rw c.in-Twin.is
