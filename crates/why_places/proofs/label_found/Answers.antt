-- `why_places::label_found` meets its contract: TLVs, or blocks, which bring VLANs only.
use mathlib.Core.Path.{sym}
use lib.Seq.{length-take-le}
use Rattle.why_places.proofs.Meant.{tlv_not, tlv_meant, block_fine, block_not, block_meant}
use borrow.Author.Rules.{rules}
use Rattle.why_places.proofs.label_found.Goals as goal

pub returns-in_default : goal.returns-in_default
returns-in_default c = search tlv_not

pub returns-then-blocks-eq0 : goal.returns-then-blocks-eq0
returns-then-blocks-eq0 c = search tlv_meant

pub returns-then-kind-ne-VLAN_KIND : goal.returns-then-kind-ne-VLAN_KIND
returns-then-kind-ne-VLAN_KIND c = search block_fine

pub slice_bounds-block_place-end : goal.slice_bounds-block_place-end
slice_bounds-block_place-end c = sym (length-take-le _ _ (search rules))

pub returns-in_default-block_place : goal.returns-in_default-block_place
returns-in_default-block_place c = search block_not

pub returns : goal.returns
returns c = search block_meant
