-- `why_word::mac_bits` meets its contract: each case has its bits, and 22 of them hold a place.
use native.Mathlib.Omega.{arith}
use Rattle.why_word.proofs.mac_bits.Goals as goal

pub returns-in-Tlv : goal.returns-in-Tlv
returns-in-Tlv c = let few = c.shown_place.ensures.1 in (rw (c.in-Tlv.is, c.shown_place.ensures.0), omega arith)
