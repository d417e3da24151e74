-- `flush_write_call::write_flush` meets its contract: each way out is an outcome of the definition.
use native.Mathlib.Omega.{arith}
use Rattle.flush_write_call.proofs.Laws.{bad_way, sized_way, small_way, short_way, written_way}
use borrow.Author.Rules.{rules}
use Rattle.flush_write_call.proofs.write_flush.Goals as goal

pub returns-then-not-lists_good : goal.returns-then-not-lists_good
returns-then-not-lists_good c = search bad_way

pub flush_length-n-requires : goal.flush_length-n-requires
flush_length-n-requires c = search sized_way

pub returns-then-out-n : goal.returns-then-out-n
returns-then-out-n c = search short_way

pub put_flush-requires : goal.put_flush-requires
put_flush-requires c = (search sized_way, search rules)

pub overflow_cast-result : goal.overflow_cast-result
overflow_cast-result c =
    let s = small_way _ _ _ _ _ c.lists_good.ensures c.if-not-lists_good.false in
    omega arith

pub returns : goal.returns
returns c = search written_way
