-- `flush_tlvs::some_label` meets its contract, by the test of one TLV.
use mathlib.Core.Path.{refl}
use Rattle.table.specs.Record.{label_from}
use Rattle.flush.specs.Payload.{every_type}
use Rattle.flush.specs.Meaning.{brings_label}
use borrow.Author.Rules.{rules}
use Rattle.flush_tlvs.proofs.some_label.Goals as goal

pub returns : goal.returns
unfolding brings_label
returns c = c.some_tlv.ensures (brings_label every_type (label_from c.args.kind c.args.x)) refl (λ k v r p. search rules)
