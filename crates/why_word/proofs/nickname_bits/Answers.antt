-- `why_word::nickname_bits` meets its contract: each case has its bits.
use native.Mathlib.Omega.{arith}
use Rattle.why_word.proofs.nickname_bits.Goals as goal

pub returns-in-Listed : goal.returns-in-Listed
returns-in-Listed c = (rw c.in-Listed.is, omega arith)
