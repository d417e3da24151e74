use mathlib.Core.List.{flat_map}
use mathlib.Core.Path.{◌≡◌}
use lib.ListN.{length, drop}
use Rattle.numbers.specs.Bytes.{parts}
use Rattle.frame_copy.specs.Areas.{pasted}
use Rattle.hello_words.specs.Words.{number_word}
use Rattle.hello_words.proofs.Parts.{Left}
use Rattle.hello_words.proofs.put_numbers.Given as goal

abbrev pub invariant-loop-i : goal.invariant-loop-i
invariant-loop-i g l = (length l.out ≡ length l.initial.out) × (Left g.row.B 8 number_word (drop l.from l.v) l.at l.out l.i ≡ pasted l.initial.out l.at (flat_map number_word (parts g.row.B (drop l.from l.v))))
