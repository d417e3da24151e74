-- `report_digits::put_digits` meets its contract. The invariant: the digits from place i on are written.
use native.Mathlib.Omega.{arith}
use Rattle.report_digits.proofs.Laws.{put_start, put_next}
use Rattle.report_digits.proofs.put_digits.Goals as goal

pub loop-i-init : goal.loop-i-init
loop-i-init g c = put_start g.row.BASE c.args.n c.args.k c.args.at c.args.out.now

pub loop-i-preserved : goal.loop-i-preserved
loop-i-preserved g c =
    let at = c.loop-i in
    put_next g.row.BASE c.args.n c.args.k c.args.at c.args.out.now at.out at.left at.i at.invariant c.requires.1 (omega arith) (omega arith) c.sign_of.result c.sign_of.ensures
