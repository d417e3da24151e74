-- `flush_vlans::add_named` meets its contract: both forms of the message, and TLVs of no type of VLANs.
use mathlib.Core.Path.{sym}
use lib.Seq.{length-take-le}
use Rattle.flush_vlans.proofs.Laws.{added_tlvs, added_none, added_blocks}
use borrow.Author.Rules.{rules}
use Rattle.flush_vlans.proofs.add_named.Goals as goal

pub slice_bounds-add_blocks-end : goal.slice_bounds-add_blocks-end
slice_bounds-add_blocks-end c = sym (length-take-le _ _ (search rules))

pub returns-then-f-ne0 : goal.returns-then-f-ne0
returns-then-f-ne0 c = search added_blocks

pub returns-then-f : goal.returns-then-f
returns-then-f c = search added_tlvs

pub returns-else-f : goal.returns-else-f
returns-else-f c = search added_none
