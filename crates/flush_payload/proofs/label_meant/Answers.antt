-- `flush_payload::label_meant` meets its contract: TLVs, or blocks, which bring VLANs only.
use mathlib.Core.Path.{sym}
use lib.Seq.{length-take-le}
use Rattle.flush.specs.Meaning.{label_meant}
use Rattle.flush_payload.proofs.Laws.{of_tlvs, blocks_fine, blocks_vlan}
use borrow.Author.Rules.{rules}
use Rattle.flush_payload.proofs.label_meant.Goals as goal

pub returns-then-blocks-eq0 : goal.returns-then-blocks-eq0
unfolding label_meant
returns-then-blocks-eq0 c = search of_tlvs

pub returns-then-kind-ne0 : goal.returns-then-kind-ne0
returns-then-kind-ne0 c = search blocks_fine

pub slice_bounds-in_vlan_blocks-end : goal.slice_bounds-in_vlan_blocks-end
slice_bounds-in_vlan_blocks-end c = sym (length-take-le _ _ (search rules))

pub returns : goal.returns
returns c = search blocks_vlan
