-- `why_places::fine_in` meets its contract: each way out is a case of the definition.
use borrow.Author.Tests.{eq-eqb, ne_eqb}
use Rattle.numbers.proofs.Steps.{pick_first, pick_second}
use Rattle.flush.specs.Meaning.{fine_in}
use Rattle.why_places.proofs.fine_in.Goals as goal

pub returns-then-k-eq6 : goal.returns-then-k-eq6
unfolding fine_in
returns-then-k-eq6 c = search (pick_first, pick_second, eq-eqb, ne_eqb) depth 8

pub returns-then-k-eq3 : goal.returns-then-k-eq3
unfolding fine_in
returns-then-k-eq3 c = search (pick_first, pick_second, eq-eqb, ne_eqb) depth 8

pub returns-then-k-eq4 : goal.returns-then-k-eq4
unfolding fine_in
returns-then-k-eq4 c = search (pick_first, pick_second, eq-eqb, ne_eqb) depth 8

pub returns-then-k-eq5 : goal.returns-then-k-eq5
unfolding fine_in
returns-then-k-eq5 c = search (pick_first, pick_second, eq-eqb, ne_eqb) depth 8

pub returns : goal.returns
unfolding fine_in
returns c = search (pick_first, pick_second, eq-eqb, ne_eqb) depth 8
