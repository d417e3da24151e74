-- `flush_filters::key_slots` meets its contract.
use Rattle.flush_filters.proofs.Laws.{slots_keyed}
use Rattle.flush_filters.proofs.key_slots.Goals as goal

pub returns : goal.returns
returns c =
    slots_keyed _ _ _ _ _ c.naming_of.ensures.0 _ _ c.remove_all.ensures c.keep_others.ensures _ c.add_where.ensures _ _ c.keys_of.ensures c.args.keys.now c.keys_of.auto.keys c.requires.1.0
