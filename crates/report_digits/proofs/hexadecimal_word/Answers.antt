-- `report_digits::hexadecimal_word` meets its contract: four signs at once, each a byte.
use mathlib.Core.Path.{refl}
use native.Mathlib.Omega.{arith}
use Rattle.report_digits.proofs.Laws.{hexadecimal_word, digits-apart}
use Rattle.report_digits.proofs.hexadecimal_word.Goals as goal

pub returns : goal.returns
returns c = (hexadecimal_word c.args.n _ _ _ (digits-apart c.args.n _ _ refl refl) refl refl, omega arith)
