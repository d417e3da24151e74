use mathlib.Core.Path.{◌≡◌}
use lib.ListN.{length}
use Rattle.flush_keys.proofs.Making.{Making, applies_at, number_at}
use Rattle.flush_keys.proofs.keys_of.Given as goal

abbrev pub invariant-loop-i : goal.invariant-loop-i
invariant-loop-i l = (length l.keys ≡ length l.initial.keys) × Making (applies_at l.field l.table) (number_at l.field l.table) l.slots l.named l.i l.n l.keys
