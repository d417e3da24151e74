-- `models_call::clear_vlans` meets its contract: no label is named, or the marked slots are those that the small model means.
use Rattle.flush_marks.proofs.Bits.{zeros_unmarked}
use Rattle.flush_call.proofs.Calls.{whole_within}
use Rattle.models_call.proofs.Marks.{vlans_noted}
use Rattle.models_call.proofs.Calls.{vlans_cleared, nothing_meant}
use Rattle.models_call.proofs.clear_vlans.Goals as goal

pub returns-then-f : goal.returns-then-f
returns-then-f c = nothing_meant _ _ _ c.requires.1.1 _ _ _ c.if-f.true

pub mark-requires : goal.mark-requires
mark-requires c =
    (record { within = whole_within _ c.requires.0; empty = zeros_unmarked }, (c.requires.1.0, vlans_noted _ _ _ c.requires.1.1))

pub returns : goal.returns
returns c =
    vlans_cleared _ _ _ c.requires.1.1 _ _ _ _ c.requires.0 c.mark.ensures.1 _ _ c.clear_marked.ensures
