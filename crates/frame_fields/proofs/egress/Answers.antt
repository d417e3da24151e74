-- `frame_fields::egress` meets its contract: the word at its offset.
use Prim.Native.Nat.{ℕ}
use mathlib.Core.List.{List}
use mathlib.Core.Path.{sym, ap, ◌∙◌}
use lib.ListN.{take}
use lib.Seq.{drop-drop}
use Rattle.numbers.specs.Bytes.{num}
use Rattle.frame_fields.proofs.egress.Goals as goal

pub returns : goal.returns
returns c = c.be2.ensures.0 ∙ ap (λ (l : List ℕ). num (take 2 l)) (sym (drop-drop 2 c.args.k c.args.l.now))
