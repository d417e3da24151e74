-- `flush_tlvs::some_mac` meets its contract, by the test of one TLV.
use mathlib.Core.Path.{refl}
use Rattle.flush.specs.Payload.{every_type}
use Rattle.flush.specs.Meaning.{brings_mac}
use borrow.Author.Rules.{rules}
use Rattle.flush_tlvs.proofs.some_mac.Goals as goal

pub returns : goal.returns
unfolding brings_mac
returns c = c.some_tlv.ensures (brings_mac every_type c.args.m) refl (λ k v r p. search rules)
