-- `hello_entry::put_wide` meets its contract: the part is filled, and the rest stays.
use Rattle.frame_copy.specs.Areas.{pasted}
use Rattle.frame_copy.proofs.Copying.{part_pasted}
use Rattle.numbers.proofs.Bytes.{length-bytes_of}
use Rattle.numbers.specs.Bytes.{bytes_of}
use mathlib.Core.Path.{◌≡◌, ap, ◌∙◌}
use Prim.Native.Nat.{ℕ}
use mathlib.Core.List.{List}
use lib.ListN.{length}
use Rattle.hello_entry.proofs.put_wide.Goals as goal

pub returns : goal.returns
returns c =
    let a = c.args in
    let y : List ℕ = c.fill8.new.s in
    let is : y ≡ bytes_of 8 a.v = c.fill8.ensures in
    part_pasted a.out.now y a.at 8 (ap length is ∙ length-bytes_of 8 a.v) ∙ ap (pasted a.out.now a.at) is
