-- `flush_write_lists::put_item` meets its contract: a MAC has a reader and a writer of its own.
use Prim.Native.Nat.{ℕ}
use mathlib.Core.Path.{ap, ◌∙◌}
use native.Mathlib.Omega.{arith}
use Rattle.numbers.specs.Bytes.{bytes_of}
use Rattle.frame_copy.specs.Areas.{pasted}
use Rattle.flush_write_lists.proofs.Laws.{both_same, last_six}
use Rattle.flush_write_lists.proofs.put_item.Goals as goal

pub be6-requires : goal.be6-requires
be6-requires c =
    let a = c.args in
    let same = (both_same a.k 8 a.size 6 c.if-k-size.true).0 in
    omega (arith, same)

pub put_address-requires : goal.put_address-requires
put_address-requires c =
    let a = c.args in
    let same = (both_same a.k 8 a.size 6 c.if-k-size.true).1 in
    omega (arith, same)

pub returns-then-k-size : goal.returns-then-k-size
returns-then-k-size c =
    let a = c.args in
    let same = both_same a.k 8 a.size 6 c.if-k-size.true in
    let inside = c.requires.0.1 in
    rw (same.0, same.1) (c.put_address.ensures ∙ ap (pasted a.out.now a.at) (ap (bytes_of 6) c.be6.ensures.0 ∙ last_six a.l.now a.from (omega (arith, same.0, inside))))

pub returns : goal.returns
returns c =
    let a = c.args in
    c.put_number.ensures ∙ ap (λ (n : ℕ). pasted a.out.now a.at (bytes_of a.size n)) c.number_in.ensures
