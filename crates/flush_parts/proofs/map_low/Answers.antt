-- `flush_parts::map_low` meets its contract.
use Rattle.flush_parts.proofs.Parts.{number_fits, map_above}
use Rattle.flush_parts.proofs.map_low.Goals as goal

pub returns : goal.returns
returns c = (search number_fits, λ x h. map_above _ _ x h _ c.number_at.ensures)
