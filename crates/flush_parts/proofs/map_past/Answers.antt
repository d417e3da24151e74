-- `flush_parts::map_past` meets its contract: the end of the numbering, or that of the map.
use Prim.Native.Nat.{◌^◌, ◌<◌}
use Rattle.flush_parts.proofs.Parts.{high_fits, map_fits, number_fits, map_highest, map_below}
use borrow.Author.Rules.{rules}
use Rattle.flush_parts.proofs.map_past.Goals as goal

pub returns-then-n-gt-MOST_VALUE : goal.returns-then-n-gt-MOST_VALUE
returns-then-n-gt-MOST_VALUE c = (search high_fits, λ x h. map_highest _ _ x h)

pub overflow_add-result-2 : goal.overflow_add-result-2
overflow_add-result-2 c = let h : c.number_at.result < 2 ^ 48 = search number_fits in search rules

pub returns : goal.returns
returns c = (search map_fits, λ x h. map_below _ _ x h _ c.number_at.ensures (search rules))
