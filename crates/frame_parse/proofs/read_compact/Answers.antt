-- `frame_parse::read_compact` meets its contract: the label after the addresses, then what is after it.
use borrow.Author.Rules.{rules}
use Rattle.frame_parse.proofs.Outcomes.{reads_refused}
use Rattle.frame_parse.proofs.Compact.{label_refused, label_got}
use Rattle.frame_parse.proofs.read_compact.Goals as goal

pub compact_after_label-requires : goal.compact_after_label-requires
compact_after_label-requires c = (search rules, (label_got _ c.requires.0 _ c.after.ensures.0 _ c.in-Ok.ensures, search rules))

pub returns-in-Err : goal.returns-in-Err
returns-in-Err c = reads_refused _ _ _ (label_refused _ c.requires.0 _ c.after.ensures.0 _ c.in-Err.ensures)
