use mathlib.Core.Path.{◌≡◌}
use Rattle.flush.specs.Payload.{pieces_of}
use Rattle.flush_walk.specs.Noted.{slot_noted, WalkedTo}
use Rattle.flush_walk.proofs.clear_walked.Given as goal

abbrev pub invariant-loop-i : goal.invariant-loop-i
invariant-loop-i l = (l.examined ≡ l.i) × WalkedTo (slot_noted l.f l.nicks (pieces_of l.f.blocks l.rest) l.ingress) l.from l.initial.table l.i l.cleared l.table
