-- `flush_tlvs::brings_mac` meets its contract: each way out is a case of the definition.
use borrow.Author.Tests.{eq-eqb, ne_eqb}
use Rattle.numbers.proofs.Steps.{pick_first, pick_second}
use Rattle.numbers.specs.Tests.{both}
use Rattle.flush.specs.Meaning.{mac_in, brings_mac}
use Rattle.flush_tlvs.proofs.brings_mac.Goals as goal

pub returns-then-k-eq7 : goal.returns-then-k-eq7
unfolding brings_mac mac_in both
returns-then-k-eq7 c = search (pick_first, pick_second, eq-eqb, ne_eqb) depth 8

pub returns-then-k-eq8 : goal.returns-then-k-eq8
unfolding brings_mac mac_in both
returns-then-k-eq8 c = search (pick_first, pick_second, eq-eqb, ne_eqb) depth 8

pub returns : goal.returns
unfolding brings_mac mac_in both
returns c = search (pick_first, pick_second, eq-eqb, ne_eqb) depth 8
