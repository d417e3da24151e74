-- `flush_nicknames::mark_found` meets its contract: no slot is left, or they are marked by filter bits or without.
use Prim.Native.Nat.{ℕ}
use native.Mathlib.Omega.{arith}
use lib.ListN.{length-replicate}
use Rattle.numbers.proofs.Truth.{and_true}
use Rattle.flush_marks.proofs.Bits.{zeros_none}
use Rattle.flush_vlans.specs.Vlans.{vlan_bytes}
use Rattle.flush_nicknames.proofs.First.{none_first, near_first, fine_first, plain_first, every_passes}
use Rattle.flush_nicknames.proofs.mark_found.Goals as goal

pub returns-then-e-k : goal.returns-then-e-k
returns-then-e-k g c = (omega arith, none_first _ _ c.args.f c.requires.1.1 _ _ _ _ (omega arith) _ c.requires.0.1.empty)

pub vlan_set-requires : goal.vlan_set-requires
vlan_set-requires g c = (c.requires.1, (length-replicate {A = ℕ} vlan_bytes 0, zeros_none vlan_bytes))

pub invariant_of-l : goal.invariant_of-l
invariant_of-l g c = record { long = c.vlan_set.ensures.long }

pub invariant_of-l-2 : goal.invariant_of-l-2
invariant_of-l-2 g c = record { meant = every_passes _ c.args.f c.requires.1.1 _ c.vlan_set.ensures }

pub returns-then-f-2 : goal.returns-then-f-2
returns-then-f-2 g c = (c.mark_from.ensures.0, fine_first _ _ c.args.f c.requires.1.1 _ _ _ _ _ c.if-f.true (and_true _ _ c.if-f-2.true).1 _ c.add_fine.ensures c.mark_from.ensures.1)

pub returns-then-f : goal.returns-then-f
returns-then-f g c = (c.mark_from-then-f.ensures.0, near_first _ _ c.args.f c.requires.1.1 _ _ _ _ _ c.vlan_set.ensures _ c.if-f.true _ c.add_fine.ensures c.mark_from-then-f.ensures.1)

pub returns : goal.returns
returns g c = (c.mark_from-2.ensures.0, plain_first _ _ c.args.f c.requires.1.1 _ _ _ _ _ c.vlan_set.ensures _ c.if-f.false c.mark_from-2.ensures.1)
