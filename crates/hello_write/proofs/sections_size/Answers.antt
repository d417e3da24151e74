-- `hello_write::sections_size` meets its contract: each section starts where the one before it ends.
use Rattle.hello_write.proofs.Walking.{kinds, first_ordered, first_most}
use Rattle.hello_write.proofs.Sizing.{sections_end, sections_follow}
use borrow.Author.Rules.{rules}
use Rattle.hello_write.proofs.sections_size.Goals as goal

pub section_size-a-requires : goal.section_size-a-requires
section_size-a-requires c = (search kinds, (search first_ordered, search first_most))

pub section_size-b-requires : goal.section_size-b-requires
section_size-b-requires c = (search kinds, (search rules, search rules))

pub section_size-c-requires : goal.section_size-c-requires
section_size-c-requires c = (search kinds, (search rules, search rules))

pub section_size-requires : goal.section_size-requires
section_size-requires c = (search kinds, (search rules, search rules))

pub returns : goal.returns
returns c = (search sections_end, search sections_follow)
