-- `convert_expand::outer_bytes` meets its contract: without a tag, or with one.
use native.Mathlib.Omega.{arith}
use Rattle.convert_expand.proofs.Pieces.{none_bytes, tag_bytes_lem}
use Rattle.convert_expand.proofs.outer_bytes.Goals as goal

pub returns-then-u-eq-UNTAGGED : goal.returns-then-u-eq-UNTAGGED
returns-then-u-eq-UNTAGGED c = (search none_bytes, omega arith)

pub returns : goal.returns
returns c = (search tag_bytes_lem, omega arith)
