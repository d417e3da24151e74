use Prim.Native.Nat.{◌-◌, ◌^◌, ◌/◌}
use mathlib.Core.Path.{◌≡◌}
use lib.ListN.{length, drop}
use Rattle.numbers.specs.Bytes.{bytes_of}
use Rattle.numbers.proofs.fill.Given as goal

abbrev pub invariant-loop-i : goal.invariant-loop-i
invariant-loop-i l = (drop l.i l.s ≡ bytes_of (length l.initial.s - l.i) l.v) × (l.left ≡ l.v / 256 ^ (length l.initial.s - l.i))
