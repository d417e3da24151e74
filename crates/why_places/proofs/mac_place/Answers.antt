-- `why_places::mac_place` meets its contract: the closure asks of a TLV what the definition does.
use Rattle.std.proofs.Common.{rules, refl}
use Rattle.flush.specs.Payload.{every_type}
use Rattle.flush.specs.Meaning.{brings_mac}
use Rattle.why_places.proofs.Laws.{unruled_mac}
use Rattle.why_places.proofs.mac_place.Goals as goal

pub returns : goal.returns
unfolding brings_mac
returns c = c.tlv_place.ensures (brings_mac every_type c.args.m) (record { says = λ k v r h. search rules; cut = refl; unruled = λ k none. unruled_mac k none c.args.m })
