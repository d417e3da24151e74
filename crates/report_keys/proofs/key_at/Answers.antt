-- `report_keys::key_at` meets its contract: the state decides whether there is a record, then the 7 bits and the entry whether it is good.
use native.Mathlib.Omega.{arith}
use Rattle.report_keys.proofs.Laws.{state_in, mark_in, nickname_in, a_state, key_empty, key_bad, key_marked, key_record}
use borrow.Author.Rules.{rules}
use Rattle.report_keys.proofs.key_at.Goals as goal

pub returns-then-state : goal.returns-then-state
returns-then-state c =
    let head = c.head_at-head in
    (key_empty _ _ (state_in _ _ head.ensures.1 head.ensures.0) c.if-state.true c.free_at.result c.free_at.ensures c.empty_key.result c.empty_key.ensures.0, c.empty_key.ensures.1)

pub returns-then-tail-ne0 : goal.returns-then-tail-ne0
returns-then-tail-ne0 c =
    let head = c.head_at-head in
    let held = a_state _ c.if-state.false in
    (key_marked _ _ (state_in _ _ head.ensures.1 head.ensures.0) held.0 held.1 c.tail_at-tail.result (mark_in _ _ _ c.tail_at-tail.ensures.0) c.if-tail-ne0.true, search rules)

pub returns-then-not-good_fields : goal.returns-then-not-good_fields
returns-then-not-good_fields c =
    let head = c.head_at-head in
    let held = a_state _ c.if-state.false in
    let tail = c.tail_at-tail in
    let good = c.good_fields in
    (key_bad _ _ (state_in _ _ head.ensures.1 head.ensures.0) held.0 held.1 good.result (good.ensures _ head.ensures.1 head.ensures.0 (nickname_in _ _ _ tail.ensures.1 tail.ensures.0)) c.if-not-good_fields.true, search rules)

pub returns : goal.returns
returns c =
    let head = c.head_at-head in
    let held = a_state _ c.if-state.false in
    let high = held.1 in
    let tail = c.tail_at-tail in
    let good = c.good_fields in
    (key_record _ _ (state_in _ _ head.ensures.1 head.ensures.0) held.0 held.1 good.result (good.ensures _ head.ensures.1 head.ensures.0 (nickname_in _ _ _ tail.ensures.1 tail.ensures.0)) c.if-not-good_fields.false tail.result (mark_in _ _ _ tail.ensures.0) c.if-tail-ne0.false _ (nickname_in _ _ _ tail.ensures.1 tail.ensures.0), omega arith)
