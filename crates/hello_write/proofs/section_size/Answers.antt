-- `hello_write::section_size` meets its contract: the entries behind the count are those of the section.
use Rattle.hello_write.proofs.Sizing.{past_follows, section_past, section_next, section_follows}
use borrow.Author.Rules.{rules}
use Rattle.hello_write.proofs.section_size.Goals as goal

pub returns-then-n-w : goal.returns-then-n-w
returns-then-n-w g c = ((search section_past, search past_follows), (search rules, search rules))

pub returns : goal.returns
returns g c = ((search section_next, search section_follows), (search rules, search rules))
