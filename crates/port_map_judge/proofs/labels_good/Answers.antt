-- `port_map_judge::labels_good` meets its contract: a short map, or a long one.
use Prim.Native.Nat.{ℕ}
use lib.ListN.{length-replicate}
use Rattle.port_map_judge.specs.Meaning.{met_bytes}
use borrow.Author.Rules.{rules}
use Rattle.port_map_judge.proofs.labels_good.Goals as goal

pub labels_noted-requires : goal.labels_noted-requires
labels_noted-requires c = (search rules, length-replicate {A = ℕ} met_bytes 0)
