-- `hello_fill::geninfo_sections` meets its contract: its two types are read, and one TLV holds them.
use Rattle.hello_fill.proofs.Subs.{beside_251}
use Rattle.hello_fill.proofs.geninfo_sections.Goals as goal

pub sections-requires-clause-types : goal.sections-requires-clause-types
sections-requires-clause-types c = beside_251
