-- `flush_payload::length_good` meets its contract: each type has its own rule, and other types have none.
use Rattle.flush_payload.proofs.Judging.{length_1, length_2, length_3, length_4, length_5, length_6, length_7, length_8, length_other}
use Rattle.flush_payload.proofs.length_good.Goals as goal

pub returns-in-1 : goal.returns-in-1
returns-in-1 c = search length_1

pub returns-in-2 : goal.returns-in-2
returns-in-2 c = search length_2

pub returns-in-3 : goal.returns-in-3
returns-in-3 c = search length_3

pub returns-in-4 : goal.returns-in-4
returns-in-4 c = search length_4

pub returns-in-5 : goal.returns-in-5
returns-in-5 c = search length_5

pub returns-in-6 : goal.returns-in-6
returns-in-6 c = search length_6

pub returns-in-7 : goal.returns-in-7
returns-in-7 c = search length_7

pub returns-in-8 : goal.returns-in-8
returns-in-8 c = search length_8

pub returns-in_default : goal.returns-in_default
returns-in_default c = search length_other
