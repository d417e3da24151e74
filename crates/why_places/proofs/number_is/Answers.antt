-- `why_places::number_is` meets its contract: by the last byte, or by the number.
use mathlib.Core.Path.{sym}
use Rattle.why_places.proofs.Laws.{sound_of}
use borrow.Author.Rules.{rules}
use Rattle.why_places.proofs.number_is.Goals as goal

pub returns-then-apart_at : goal.returns-then-apart_at
returns-then-apart_at c = sym (c.apart_at.ensures c.if-apart_at.true)

pub number_at-requires : goal.number_at-requires
number_at-requires c = (search sound_of, search rules)

pub returns : goal.returns
returns c = cc
