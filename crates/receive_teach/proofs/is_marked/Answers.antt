-- `receive_teach::is_marked` meets its contract: each bit is read within the header.
use Prim.Native.Nat.{ℕ, ◌/◌, ◌%◌, ◌^◌}
use mathlib.Core.Path.{ap, ◌∙◌}
use native.Mathlib.Omega.{arith}
use Rattle.frame_parse.proofs.Located.{header_word}
use Rattle.receive_teach.proofs.Laws.{mark_test}
use Rattle.receive_teach.proofs.is_marked.Goals as goal

pub returns : goal.returns
returns c =
    let a = c.args in
    let word = header_word a.f.now a.p c.requires 0 (omega arith) in
    mark_test a.s _ _ _ (c.first_reserved.ensures ∙ ap (λ (w : ℕ). w / 2 ^ 13 % 2 ^ 1) word) (c.second_reserved.ensures ∙ ap (λ (w : ℕ). w / 2 ^ 12 % 2 ^ 1) word)
