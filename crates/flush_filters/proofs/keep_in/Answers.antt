-- `flush_filters::keep_in` meets its contract: no room, or the filter was run.
use mathlib.Core.Path.{sym}
use Rattle.numbers.proofs.Truth.{false_true}
use Rattle.flush_filters.proofs.Laws.{full_room, kept_none, kept_all}
use borrow.Author.Rules.{rules}
use Rattle.flush_filters.proofs.keep_in.Goals as goal

pub keep_listed-requires : goal.keep_listed-requires
keep_listed-requires c = let listing = c.list_marked.ensures in let long = listing.long in ((c.requires.0, listing.held _ c.in-Some.is), (search rules, search rules))

pub returns-in-Some : goal.returns-in-Some
returns-in-Some c = (kept_all _ _ _ _ c.keep_listed.ensures, λ e. false_true (sym e))

pub returns-in-None : goal.returns-in-None
returns-in-None c = (kept_none _ _ _, λ e. search full_room)
