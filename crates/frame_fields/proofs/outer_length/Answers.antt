-- `frame_fields::outer_length` meets its contract: the tests are the definition's, in its order.
use Rattle.numbers.proofs.Steps.{steps}
use Rattle.frame.specs.Formats.{outer_length}
use Rattle.frame_fields.proofs.outer_length.Goals as goal

pub returns-then-l-lt-UNTAGGED_OUTER_BYTES : goal.returns-then-l-lt-UNTAGGED_OUTER_BYTES
unfolding outer_length
returns-then-l-lt-UNTAGGED_OUTER_BYTES c = search steps depth 16

pub returns-then-l-lt-TAGGED_ADDRESSES_BYTES : goal.returns-then-l-lt-TAGGED_ADDRESSES_BYTES
unfolding outer_length
returns-then-l-lt-TAGGED_ADDRESSES_BYTES c = search steps depth 16

pub returns-then-l-lt-TAGGED_OUTER_BYTES : goal.returns-then-l-lt-TAGGED_OUTER_BYTES
unfolding outer_length
returns-then-l-lt-TAGGED_OUTER_BYTES c = search steps depth 16

pub returns-then-not-has_ethertype : goal.returns-then-not-has_ethertype
unfolding outer_length
returns-then-not-has_ethertype c = search steps depth 16

pub returns-then-has_ethertype : goal.returns-then-has_ethertype
unfolding outer_length
returns-then-has_ethertype c = search steps depth 16

pub returns-then-not-has_ethertype-2 : goal.returns-then-not-has_ethertype-2
unfolding outer_length
returns-then-not-has_ethertype-2 c = search steps depth 16

pub returns : goal.returns
unfolding outer_length
returns c = search steps depth 16
