-- `flush_marks::eight_marked` meets its contract: a byte of marks is full.
use mathlib.Core.Path.{refl}
use native.Mathlib.Omega.{arith}
use Rattle.flush_marks.proofs.Clearing.{byte_full}
use Rattle.flush_marks.proofs.eight_marked.Goals as goal

pub returns : goal.returns
returns c = byte_full _ _ _ _ refl (omega arith) (omega arith)
