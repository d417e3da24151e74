-- `flush_write_lists::block_in` meets its contract: two numbers of two bytes are one of four.
use native.Mathlib.Omega.{arith}
use Rattle.numbers.specs.Bytes.{AreBytes}
use Rattle.flush_write_lists.proofs.Laws.{first_two, second_two}
use Rattle.flush_write_lists.proofs.block_in.Goals as goal

pub be4-both-requires : goal.be4-both-requires
be4-both-requires c = let same = c.if-k-eq2.true in omega (arith, same)

pub returns-then-k-eq2 : goal.returns-then-k-eq2
returns-then-k-eq2 c =
    let a = c.args in
    let same = c.if-k-eq2.true in
    let inside = c.requires.1 in
    let bytes : AreBytes a.l.now = λ i. (c.shared_slice_known-1.given i).fits in
    rw same (
      first_two a.l.now a.at bytes (omega (arith, same, inside)) _ c.be4-both.ensures.0,
      second_two a.l.now a.at bytes (omega (arith, same, inside)) _ c.be4-both.ensures.0,
    )

pub returns : goal.returns
returns c = (c.number_in.ensures, c.number_in-2.ensures)
