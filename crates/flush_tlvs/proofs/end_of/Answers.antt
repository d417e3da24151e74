-- `flush_tlvs::end_of` meets its contract: two bytes and as many as the second says; a lone byte says none.
use Rattle.flush_tlvs.proofs.Laws.{end_lone, end_told}
use Rattle.flush_tlvs.proofs.end_of.Goals as goal

pub returns-then-l-s : goal.returns-then-l-s
returns-then-l-s c = search end_lone

pub returns : goal.returns
returns c = search end_told
