-- `flush_tlvs::some_gathers` meets its contract, by the test of one TLV.
use mathlib.Core.Path.{refl}
use Rattle.flush.specs.Payload.{every_type}
use Rattle.flush.specs.Meaning.{gathers_mac}
use borrow.Author.Rules.{rules}
use Rattle.flush_tlvs.proofs.some_gathers.Goals as goal

pub returns : goal.returns
unfolding gathers_mac
returns c = c.some_tlv.ensures (gathers_mac every_type) refl (λ k v r p. search rules)
