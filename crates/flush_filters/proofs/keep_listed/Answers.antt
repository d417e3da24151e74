-- `flush_filters::keep_listed` meets its contract: the slots marked anew are those that pass.
use mathlib.Core.Path.{sym}
use lib.Seq.{length-take-le}
use Rattle.flush_filters.proofs.Laws.{in_table, lent_fits, lent_few, marked_anew}
use borrow.Author.Rules.{rules}
use Rattle.flush_filters.proofs.keep_listed.Goals as goal

pub slice_bounds-key_slots-end-2 : goal.slice_bounds-key_slots-end-2
slice_bounds-key_slots-end-2 c = sym (length-take-le _ _ c.requires.0.1.room)

pub key_slots-n-requires : goal.key_slots-n-requires
key_slots-n-requires c = (in_table _ _ _ _ c.requires.0.0 c.requires.0.1, (lent_fits _ c.args.slots.now c.args.keys.now c.requires.0.1.room c.requires.1.1, search rules))

pub slice_bounds-mark_named-end-2 : goal.slice_bounds-mark_named-end-2
slice_bounds-mark_named-end-2 c = sym (length-take-le _ _ c.key_slots-n.ensures.within)

pub mark_named-requires : goal.mark_named-requires
mark_named-requires c = (lent_few _ _ c.args.keys.now c.args.slots.now c.key_slots-n.ensures.within c.key_slots-n.auto.keys c.requires.1.1 c.requires.1.0, c.key_slots-n.ensures.long)

pub returns : goal.returns
returns c = let pre = c.requires in marked_anew _ _ _ _ _ pre.0.0 pre.0.1.each _ _ _ _ c.key_slots-n.ensures c.mark_named.ensures
