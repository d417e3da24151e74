-- `why_places::tlv_place` meets its contract. The invariant: the first TLV that is asked for is the first from `at` on, which are counted on from
-- `tlv`; a TLV has two bytes or more, so that `tlv` is not past `at`.
use Rattle.std.proofs.Common.{rules, sym, refl}
use Rattle.why_places.proofs.Laws.{empty_room, walk_empty, walk_done, walk_cut, walk_hit, walk_next}
use Rattle.why_places.proofs.tlv_place.Goals as goal

pub loop-at-init : goal.loop-at-init
loop-at-init g c = (search rules, (search rules, λ ask asks. refl))

pub loop-at-preserved-then-empty_at : goal.loop-at-preserved-then-empty_at
loop-at-preserved-then-empty_at g c = (search empty_room, (search rules, λ ask asks. walk_empty ask _ _ _ _ (c.loop-at.invariant.1.1 ask asks) _ c.empty_at.ensures c.if-empty_at.true asks.unruled))

pub returns-then-l-e : goal.returns-then-l-e
returns-then-l-e g c = λ ask asks. walk_cut ask _ _ _ _ (c.loop-at.invariant.1.1 ask asks) c.loop-at-test.true _ c.end_of-e.ensures c.if-l-e.true (sym asks.cut)

pub returns-then-brings : goal.returns-then-brings
returns-then-brings g c = λ ask asks.
    walk_hit ask _ _ _ _ (c.loop-at.invariant.1.1 ask asks) c.loop-at-test.true _ c.end_of-e.ensures (search rules) c.brings.result (asks.says _ _ _ c.brings.ensures) c.if-brings.true

pub loop-at-preserved : goal.loop-at-preserved
loop-at-preserved g c = (
  search rules,
  (
    search rules,
    λ ask asks.
        walk_next ask _ _ _ _ (c.loop-at.invariant.1.1 ask asks) c.loop-at-test.true _ c.end_of-e.ensures (search rules) c.brings.result (asks.says _ _ _ c.brings.ensures) c.if-brings.false,
  ),
)

pub returns : goal.returns
returns g c = λ ask asks. walk_done ask c.args.l.now c.loop-at.at _ _ (c.loop-at.invariant.1.1 ask asks) (search rules)
