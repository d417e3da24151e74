-- `flush_sets::shifted` meets its contract: nothing is lost.
use Rattle.flush_sets.proofs.Maps.{shift_told}
use borrow.Author.Rules.{rules}
use Rattle.flush_sets.proofs.shifted.Goals as goal

pub returns : goal.returns
returns c = shift_told c.args.m c.args.k (search rules) (search rules) _ c.wide.ensures.0
