-- `port_map_pairs::scan` meets its contract: a turn goes on only at a pair that is left, and the end has the answer.
use Rattle.std.proofs.Common.{◌<◌, ◌∙◌, T, length, arith, subst, sym, ap, not}
use Rattle.port_map_pairs.proofs.Laws.{goes_yes, goes_no, goes_next}
use Rattle.port_map_pairs.proofs.scan.Goals as goal

pub offset_bounds-map-i : goal.offset_bounds-map-i
offset_bounds-map-i c = let less : c.loop-f.i < length c.args.map.now = (goes_yes _ _ _ (subst T c.loop-f-test.ensures tt)).1 in omega arith

pub bounds-map-i : goal.bounds-map-i
bounds-map-i c = (goes_yes _ _ _ (subst T c.loop-f-test.ensures tt)).1

pub overflow_add-i : goal.overflow_add-i
overflow_add-i c = let less : c.loop-f.i < length c.args.map.now = (goes_yes _ _ _ (subst T c.loop-f-test.ensures tt)).1 in omega arith

pub loop-f-smaller : goal.loop-f-smaller
loop-f-smaller c = let less : c.loop-f.i < length c.args.map.now = (goes_yes _ _ _ (subst T c.loop-f-test.ensures tt)).1 in omega arith

pub loop-f-preserved : goal.loop-f-preserved
loop-f-preserved c =
    let on = goes_yes c.loop-f.f c.loop-f.i (length c.args.map.now) (subst T c.loop-f-test.ensures tt) in
    goes_next _ _ _ _ _ _ on.0 on.1 c.loop-f.invariant c.asked-f.ensures

pub returns : goal.returns
returns c = sym (c.loop-f.invariant ∙ goes_no _ _ _ _ (subst T (ap not c.loop-f-test.ensures) tt))
