-- `report_digits::put` meets its contract.
use Rattle.report_digits.proofs.Laws.{put_one}
use Rattle.report_digits.proofs.put.Goals as goal

pub returns : goal.returns
returns c = put_one c.args.out.now c.args.at c.args.b c.requires
