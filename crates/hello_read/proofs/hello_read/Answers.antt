-- `hello_read::hello_read` meets its contract: each way out is an outcome of the definition.
use mathlib.Core.Path.{refl}
use Rattle.std.proofs.lemmas.Result.{err_from_is_err_and}
use Rattle.hello_read.proofs.Laws.{refused_way, short_way, fit_room, written_way}
use borrow.Author.Rules.{rules}
use Rattle.hello_read.proofs.hello_read.Goals as goal

pub returns-in_err-refusal : goal.returns-in_err-refusal
returns-in_err-refusal c =
    let q = err_from_is_err_and c.from_residual.result c.from_residual.ensures.1 in
    rw (q.1, q.2) (refused_way _ _ _ c.count-c.ensures.0 _ c.in_err-refusal.ensures _ refl)

pub returns-then-not-sections_fit : goal.returns-then-not-sections_fit
returns-then-not-sections_fit c = short_way _ _ _ c.count-c.ensures.0 _ c.in_ok-refusal.ensures refl _ c.sections_fit.ensures c.if-not-sections_fit.true

pub put_sections-e-requires : goal.put_sections-e-requires
put_sections-e-requires c = (search rules, search fit_room)

pub returns : goal.returns
returns c =
    let e = c.put_sections-e in
    written_way _ _ _ c.count-c.ensures.0 _ c.in_ok-refusal.ensures refl _ c.sections_fit.ensures c.if-not-sections_fit.false _ _ e.ensures.1 e.ensures.0
