-- `flush_buckets::add_short` meets its contract: nothing, too many, or the bits from the place of the first to that of the last.
use native.Mathlib.Omega.{arith}
use Rattle.flush_buckets.proofs.Laws.{adds_none, too_many, adds_one, adds_range}
use Rattle.flush_buckets.proofs.add_short.Goals as goal

pub returns-then-e-s : goal.returns-then-e-s
returns-then-e-s c = adds_none _ _ _ c.if-e-s.true

pub returns-then-last-s-ge-LONGEST_ADDED : goal.returns-then-last-s-ge-LONGEST_ADDED
returns-then-last-s-ge-LONGEST_ADDED c = search too_many

pub returns-then-i-j : goal.returns-then-i-j
returns-then-i-j c = adds_one _ _ _ _ _ _ (omega arith) (omega arith) c.bucket_of-i.ensures.0 c.bucket_of-j.ensures.0 c.if-i-j.true c.add_one.ensures

pub returns-then-j-i : goal.returns-then-j-i
returns-then-j-i c = search too_many

pub returns : goal.returns
returns c = adds_range _ _ _ _ _ _ (omega arith) (omega arith) c.bucket_of-i.ensures.0 c.bucket_of-j.ensures.0 (omega arith) c.add_range.ensures
