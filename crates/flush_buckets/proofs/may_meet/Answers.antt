-- `flush_buckets::may_meet` meets its contract: an empty range, a long one, or a short one, which lies in the buckets of its ends.
use mathlib.Core.Path.{sym}
use native.Mathlib.Omega.{arith}
use Rattle.numbers.proofs.Truth.{false_true}
use Rattle.flush_buckets.proofs.Laws.{not_met}
use Rattle.flush_buckets.proofs.may_meet.Goals as goal

pub returns-then-e-s : goal.returns-then-e-s
returns-then-e-s c = λ none x a b. absurd (omega arith)

pub returns-then-last-s-ge-BUCKET : goal.returns-then-last-s-ge-BUCKET
returns-then-last-s-ge-BUCKET c = λ none x a b. false_true (sym none)

pub returns : goal.returns
returns c = not_met _ _ _ (omega arith) (omega arith) _ _ c.has_bit.ensures c.has_bit-2.ensures
