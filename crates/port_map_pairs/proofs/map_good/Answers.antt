-- `port_map_pairs::map_good` meets its contract: a turn goes on only at a pair that is left, and the end has the judgement.
use Rattle.std.proofs.Common.{◌<◌, ◌∙◌, T, length, arith, subst, sym, ap, not}
use Rattle.port_map_pairs.proofs.Laws.{keeps_yes, keeps_no, keeps_next, keeps_first, good_is}
use Rattle.port_map_pairs.proofs.map_good.Goals as goal

pub loop-good-init : goal.loop-good-init
loop-good-init c = keeps_first _

pub pair_good_at-good-requires : goal.pair_good_at-good-requires
pair_good_at-good-requires c = (keeps_yes _ _ _ (subst T c.loop-good-test.ensures tt)).1

pub overflow_add-i : goal.overflow_add-i
overflow_add-i c = let less : c.loop-good.i < length c.args.map.now = (keeps_yes _ _ _ (subst T c.loop-good-test.ensures tt)).1 in omega arith

pub loop-good-smaller : goal.loop-good-smaller
loop-good-smaller c = let less : c.loop-good.i < length c.args.map.now = (keeps_yes _ _ _ (subst T c.loop-good-test.ensures tt)).1 in omega arith

pub loop-good-preserved : goal.loop-good-preserved
loop-good-preserved c =
    let on = keeps_yes c.loop-good.good c.loop-good.i (length c.args.map.now) (subst T c.loop-good-test.ensures tt) in
    keeps_next _ _ _ _ _ on.0 on.1 c.loop-good.invariant c.pair_good_at-good.ensures

pub returns : goal.returns
returns c = sym (c.loop-good.invariant ∙ keeps_no _ _ _ (subst T (ap not c.loop-good-test.ensures) tt)) ∙ good_is _
