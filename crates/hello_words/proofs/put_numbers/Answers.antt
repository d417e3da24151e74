-- `hello_words::put_numbers` meets its contract. The invariant: the rest written behind what is there makes the whole.
use mathlib.Core.Path.{refl}
use Rattle.hello_words.proofs.Parts.{numbers_none, list_next, list_done}
use borrow.Author.Rules.{rules}
use Rattle.hello_words.proofs.put_numbers.Goals as goal

pub loop-i-init : goal.loop-i-init
loop-i-init g c = (refl, search numbers_none)

pub loop-i-preserved : goal.loop-i-preserved
loop-i-preserved g c = (search rules, list_next g.row.B (search rules) c.args.v.now c.args.from c.args.at c.loop-i.i _ refl c.loop-i.out _ c.loop-i.invariant.1 (search rules) (search rules) (search rules) _ c.last.ensures _ c.put_word.ensures)

pub returns : goal.returns
returns g c = search (list_done, rules)
