-- `report_tally::count_on` meets its contract: a tally of the key is counted on, or nothing changes.
use Prim.Native.Nat.{ℕ}
use mathlib.Core.Path.{◌≡◌}
use native.Mathlib.Omega.{arith}
use Rattle.report_tally.proofs.Laws.{has_room, counted_on}
use Rattle.report_tally.proofs.count_on.Goals as goal

pub returns : goal.returns
returns c =
    let hit = c.counts_at.ensures c.if-not-counts_at.false in
    let in-n = hit.0 in
    let room = has_room c.args.tallies.now c.args.n c.args.k _ in-n (omega arith) hit.1 in
    (λ z. counted_on c.args.tallies.now c.args.n c.args.k _ in-n (omega arith) hit.1 (omega arith), λ z. let y : ◌≡◌ {A = ℕ} 0 1 = cc in absurd (omega arith))
