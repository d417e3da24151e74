-- `flush_buckets::bucket_of` meets its contract.
use Rattle.flush_buckets.specs.Buckets.{bucket_of}
use mathlib.Core.Path.{refl}
use native.Mathlib.Omega.{arith}
use Rattle.flush_buckets.proofs.bucket_of.Goals as goal

pub returns : goal.returns
unfolding bucket_of
returns c = (refl, omega arith)
