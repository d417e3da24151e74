-- `flush_call::clear_portion` meets its contract: refused, or cleared by the parts that the payload is made of.
use mathlib.Core.Path.{refl}
use native.Mathlib.Omega.{arith}
use Rattle.flush_call.proofs.Calls.{good_front, good_blocks, good_kinds, meant_refused, meant_cleared}
use Rattle.std.proofs.lemmas.Result.{err_from_is_err_and}
use Rattle.flush_call.proofs.clear_portion.Goals as goal

pub nick_bytes-k-requires : goal.nick_bytes-k-requires
nick_bytes-k-requires c = omega (arith, good_front _ _ c.in_ok-f.ensures _ refl)

pub slice_bounds-clear_range-end : goal.slice_bounds-clear_range-end
slice_bounds-clear_range-end c = omega (arith, good_front _ _ c.in_ok-f.ensures _ refl)

pub slice_bounds-clear_range-count-2 : goal.slice_bounds-clear_range-count-2
slice_bounds-clear_range-count-2 c = omega (arith, good_front _ _ c.in_ok-f.ensures _ refl)

pub slice_bounds-clear_range-start-2 : goal.slice_bounds-clear_range-start-2
slice_bounds-clear_range-start-2 c = omega (arith, good_front _ _ c.in_ok-f.ensures _ refl)

pub clear_range-requires : goal.clear_range-requires
clear_range-requires c =
    let judged = c.in_ok-f.ensures in
    let nicks = c.nick_bytes-k.ensures.0 in
    (c.requires, (good_blocks _ _ judged _ refl _ nicks, good_kinds _ _ judged _ refl _ nicks))

pub returns-in_err-f : goal.returns-in_err-f
returns-in_err-f c = let q = err_from_is_err_and c.from_residual.result c.from_residual.ensures.1 in rw (q.1, q.2) (meant_refused _ _ c.in_err-f.ensures _ refl _ _ _ _)

pub returns : goal.returns
returns c = meant_cleared _ _ c.in_ok-f.ensures _ refl _ _ _ _ _ c.nick_bytes-k.ensures.0 _ _ c.clear_range.ensures
