-- `frame_parse::read_general` meets its contract: the outer part, then what is after it.
use mathlib.Core.Path.{sym}
use borrow.Author.Rules.{rules}
use Rattle.frame_parse.proofs.Outcomes.{reads_refused}
use Rattle.frame_parse.proofs.General.{outer_refused}
use Rattle.frame_parse.proofs.read_general.Goals as goal

pub general_after_outer-requires : goal.general_after_outer-requires
general_after_outer-requires c = (sym c.in-Ok.ensures, search rules)

pub returns-in-Err : goal.returns-in-Err
returns-in-Err c = reads_refused _ _ _ (outer_refused _ _ _ c.in-Err.ensures)
