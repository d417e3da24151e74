-- `why_places::label_place` meets its contract: the closure asks of a TLV what the definition does.
use Rattle.std.proofs.Common.{rules, refl}
use Rattle.table.specs.Record.{label_from}
use Rattle.flush.specs.Payload.{every_type}
use Rattle.flush.specs.Meaning.{brings_label}
use Rattle.why_places.proofs.Laws.{unruled_label}
use Rattle.why_places.proofs.label_place.Goals as goal

pub returns : goal.returns
unfolding brings_label
returns c = c.tlv_place.ensures (brings_label every_type (label_from c.args.kind c.args.x)) (record { says = λ k v r h. search rules; cut = refl; unruled = λ k none. unruled_label k none (label_from c.args.kind c.args.x) })
