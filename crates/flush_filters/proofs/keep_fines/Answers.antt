-- `flush_filters::keep_fines` meets its contract: where no type 6 is there, what is meant is named.
use Rattle.flush_filters.proofs.Meant.{fines_kept}
use Rattle.flush_filters.proofs.keep_fines.Goals as goal

pub returns : goal.returns
returns c = fines_kept _ c.requires.1 _ _ _ c.keep.ensures
