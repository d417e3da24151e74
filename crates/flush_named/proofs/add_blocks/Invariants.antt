use Prim.Native.Nat.{◌*◌}
use mathlib.Core.Bool.{true}
use lib.ListN.{drop}
use Rattle.flush_parts.specs.Parts.{parts_hit}
use Rattle.flush_named.proofs.Laws.{Adding}
use Rattle.flush_named.proofs.add_blocks.Given as goal

abbrev pub invariant-loop-i : goal.invariant-loop-i
invariant-loop-i l = Adding (parts_hit true l.w l.v) (parts_hit true l.w (drop (l.i * l.k) l.v)) l.initial.bits l.bits
