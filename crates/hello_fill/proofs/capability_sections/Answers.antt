-- `hello_fill::capability_sections` meets its contract: its two types are read, and one TLV holds them.
use Rattle.hello_fill.proofs.Subs.{beside_242}
use Rattle.hello_fill.proofs.capability_sections.Goals as goal

pub sections-requires-clause-types : goal.sections-requires-clause-types
sections-requires-clause-types c = beside_242
