-- `hello_fill::fill_sub` meets its contract: each type at its pen.
use Rattle.hello_fill.proofs.Subs.{put_first, put_second, put_neither}
use Rattle.hello_fill.proofs.fill_sub.Goals as goal

pub returns-then-j : goal.returns-then-j
returns-then-j g c = search put_first

pub returns-then-j-2 : goal.returns-then-j-2
returns-then-j-2 g c = search put_second

pub returns : goal.returns
returns g c = search (put_neither g.row.FIRST g.row.SECOND)
