-- `port_map_judge::labels_by_keys` meets its contract: the areas hold a key for each pair.
use mathlib.Core.Path.{refl, sym}
use lib.Seq.{length-take-le}
use Rattle.port_map_judge.proofs.Apart.{keys_fit, keys_lent}
use Rattle.port_map_judge.proofs.labels_by_keys.Goals as goal

pub slice_bounds-labels_sorted-end : goal.slice_bounds-labels_sorted-end
slice_bounds-labels_sorted-end c = sym (length-take-le _ _ (search keys_fit))

pub labels_sorted-requires : goal.labels_sorted-requires
labels_sorted-requires c = keys_lent c.args.map.now c.requires.1 c.requires.0 _ refl
