-- `flush_parts::span_for` meets its contract: as defined.
use Rattle.flush_parts.proofs.Parts.{block_span, item_span}
use borrow.Author.Rules.{rules}
use Rattle.flush_parts.proofs.span_for.Goals as goal

pub returns-then-block : goal.returns-then-block
returns-then-block c = (search block_span, search rules)

pub returns : goal.returns
returns c = (search item_span, search rules)
