-- `table_records::clear` meets its contract: the slot is filled with the bytes of 0.
use Prim.Native.Nat.{ℕ}
use mathlib.Core.Path.{ap, ◌∙◌}
use Rattle.numbers.specs.Bytes.{bytes_of}
use Rattle.table_records.proofs.clear.Goals as goal

pub returns : goal.returns
returns c = c.fill.ensures ∙ ap (λ (k : ℕ). bytes_of k 0) c.requires
