-- `table_widening::put_head` meets its contract: the part is filled, and the rest stays.
use Prim.Native.Nat.{ℕ}
use mathlib.Core.List.{List}
use mathlib.Core.Path.{◌≡◌, ap, ◌∙◌}
use lib.ListN.{length}
use Rattle.numbers.specs.Bytes.{bytes_of}
use Rattle.numbers.proofs.Bytes.{length-bytes_of}
use Rattle.frame_copy.specs.Areas.{pasted}
use Rattle.frame_copy.proofs.Copying.{part_pasted}
use Rattle.table_widening.specs.Parts.{head_bytes}
use Rattle.table_widening.proofs.put_head.Goals as goal

pub returns : goal.returns
returns c =
    let a = c.args in
    let y : List ℕ = c.fill8.new.s in
    let is : y ≡ bytes_of head_bytes a.v = c.fill8.ensures in
    part_pasted a.out.now y a.at head_bytes (ap length is ∙ length-bytes_of head_bytes a.v) ∙ ap (pasted a.out.now a.at) is
