-- `hello_fill::put_sub` meets its contract: return by return.
use native.Mathlib.Omega.{arith}
use Rattle.hello_fill.proofs.Subs.{words_fit, bad_put, bad_end, put_end}
use borrow.Author.Rules.{rules}
use Rattle.hello_fill.proofs.put_sub.Goals as goal

pub returns-then-n-eq0 : goal.returns-then-n-eq0
returns-then-n-eq0 g c = (search bad_put, search bad_end)

pub overflow_mul-result : goal.overflow_mul-result
overflow_mul-result g c = let w = words_fit g.row.KIND c.args.v.now c.args.out.now c.args.at _ c.numbers_of-n.ensures c.requires.room in omega arith

pub overflow_add-result : goal.overflow_add-result
overflow_add-result g c = let w = words_fit g.row.KIND c.args.v.now c.args.out.now c.args.at _ c.numbers_of-n.ensures c.requires.room in omega arith

pub returns : goal.returns
returns g c = (search rules, search put_end)
