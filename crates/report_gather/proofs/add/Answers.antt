-- `report_gather::add` meets its contract: the key is counted on, noted in the set, or counted in a new tally.
use Prim.Native.Nat.{ℕ}
use mathlib.Core.List.{List}
use mathlib.Core.Path.{refl, ap}
use native.Mathlib.Omega.{arith}
use lib.ListN.{length, take}
use Rattle.report_set.specs.Set.{set_tallies}
use Rattle.report_gather.proofs.Laws.{first_more, second_more, first_new}
use Rattle.report_gather.proofs.add.Goals as goal

pub returns-then-count_on : goal.returns-then-count_on
returns-then-count_on c =
    let a = c.args in
    let on = c.count_on in
    (omega arith, first_more a.k (take a.n a.tallies.now) _ (set_tallies 0 a.s.now) _ (on.ensures.0 c.if-count_on.true) refl)

pub returns-then-note_first : goal.returns-then-note_first
returns-then-note_first c =
    let a = c.args in
    let same = c.count_on.ensures.1 c.if-count_on.false in
    let more = c.note_first.ensures.0 c.if-note_first.true in
    let longer = more.longer in
    (omega arith, second_more a.k (take a.n a.tallies.now) _ (set_tallies 0 a.s.now) _ (ap (take a.n) same) more.counted)

pub returns : goal.returns
returns c =
    let a = c.args in
    let same = c.count_on.ensures.1 c.if-count_on.false in
    let kept = c.note_first.ensures.1 c.if-note_first.false in
    let long = ap (λ (s : List ℕ). length (set_tallies 0 s)) kept in
    (omega arith, first_new a.k a.n a.tallies.now _ _ a.s.now _ same c.count_new.ensures kept)
