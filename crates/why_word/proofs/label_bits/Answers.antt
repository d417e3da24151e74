-- `why_word::label_bits` meets its contract: each case has its bits, and 22 of them hold a place.
use native.Mathlib.Omega.{arith}
use Rattle.why_word.proofs.label_bits.Goals as goal

pub returns-in-Block : goal.returns-in-Block
returns-in-Block c = let few = c.shown_place.ensures.1 in (rw (c.in-Block.is, c.shown_place.ensures.0), omega arith)

pub returns-in-Tlv : goal.returns-in-Tlv
returns-in-Tlv c = let few = c.shown_place-in-Tlv.ensures.1 in (rw (c.in-Tlv.is, c.shown_place-in-Tlv.ensures.0), omega arith)
