-- `why_call::payload_reason` meets its contract: the parts of the payload are what it is made of.
use Rattle.why_call.proofs.Laws.{cut-made, cut_rest, cut_few}
use borrow.Author.Rules.{rules}
use Rattle.why_call.proofs.payload_reason.Goals as goal

pub learned_reason-requires : goal.learned_reason-requires
learned_reason-requires c = (search cut_few, (search cut_rest, search rules))

pub returns : goal.returns
returns c = search cut-made
