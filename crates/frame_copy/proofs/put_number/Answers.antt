-- `frame_copy::put_number` meets its contract: the part is filled, and the rest stays.
use Rattle.frame_copy.specs.Areas.{pasted}
use Rattle.frame_copy.proofs.Copying.{part_is, part_pasted}
use Rattle.numbers.proofs.Bytes.{length-bytes_of}
use Rattle.numbers.specs.Bytes.{bytes_of}
use mathlib.Core.Path.{◌≡◌, ap, ◌∙◌}
use Prim.Native.Nat.{ℕ}
use mathlib.Core.List.{List}
use lib.ListN.{length}
use Rattle.frame_copy.proofs.put_number.Goals as goal

pub returns : goal.returns
returns c =
    let a = c.args in
    let y : List ℕ = c.fill.new.s in
    let is : y ≡ bytes_of a.n a.v = c.fill.ensures ∙ ap (λ (k : ℕ). bytes_of k a.v) (part_is a.out.now a.at a.n c.requires).1 in
    part_pasted a.out.now y a.at a.n (ap length is ∙ length-bytes_of a.n a.v) ∙ ap (pasted a.out.now a.at) is
