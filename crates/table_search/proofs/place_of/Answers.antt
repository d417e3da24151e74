-- `table_search::place_of` meets its contract: numbers that no good record can hold find none.
use mathlib.Core.Path.{◌∙◌}
use native.Mathlib.Omega.{arith}
use Rattle.table_search.proofs.Laws.{other_kind, place_from, too_large}
use Rattle.table_search.proofs.place_of.Goals as goal

pub returns-then-k-gt-FINE_KIND : goal.returns-then-k-gt-FINE_KIND
returns-then-k-gt-FINE_KIND c =
    let a = c.args in
    other_kind a.kind a.label a.mac a.t.now c.if-k-gt-FINE_KIND.true

pub returns-then-x-gt-LAST_FINE : goal.returns-then-x-gt-LAST_FINE
returns-then-x-gt-LAST_FINE c =
    let a = c.args in
    too_large a.kind a.label a.mac a.t.now (omega arith) (λ f. omega arith)

pub returns-then-mac-gt-LAST_ADDRESS : goal.returns-then-mac-gt-LAST_ADDRESS
returns-then-mac-gt-LAST_ADDRESS c =
    let a = c.args in
    too_large a.kind a.label a.mac a.t.now (omega arith) (λ f. omega arith)

pub returns : goal.returns
returns c =
    let a = c.args in
    c.find_pair.ensures ∙ place_from a.kind a.label a.mac a.t.now (omega arith)
