-- `table_states::spoilt_fields_at` meets its contract: of state 1 or 2 the entry decides, else any bit.
use Prim.Native.Nat.{ℕ, ◌%◌, ◌^◌}
use mathlib.Core.Path.{ap}
use Rattle.table_states.proofs.Laws.{spoilt-entry, spoilt_front, spoilt_zero}
use borrow.Author.Rules.{rules}
use Rattle.table_states.proofs.spoilt_fields_at.Goals as goal

pub good_by_front-requires : goal.good_by_front-requires
good_by_front-requires c = (search rules, ap (λ (x : ℕ). x % 2 ^ 30) c.front_at-front.ensures.0)

pub returns-then-front : goal.returns-then-front
returns-then-front c = spoilt-entry _ _ c.front_at-front.ensures.0 c.front_at-front.ensures.1 c.if-front.true _ c.good_by_front.ensures

pub returns-then-front-ne0 : goal.returns-then-front-ne0
returns-then-front-ne0 c = spoilt_front _ _ c.front_at-front.ensures.0 c.front_at-front.ensures.1 c.if-front.false c.if-front-ne0.true

pub returns : goal.returns
returns c =
    let front = c.front_at-front.ensures in
    spoilt_zero _ _ front.0 front.1 c.if-front-ne0.false _ c.zero_after_front.ensures
