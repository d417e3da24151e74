-- What `models::claims` ensures is proved in the modules beside.
use Rattle.models.proofs.Models.{full_model, vlan_only}
use Rattle.models.proofs.Example.{not_promised}
use Rattle.models.proofs.claims.Goals as goal

pub returns : goal.returns
returns c = (full_model, vlan_only, not_promised)
