-- `hello_read::sections_fit` meets its contract: what is left of the room is compared, and never a sum.
use Rattle.hello_read.proofs.Laws.{fits_none, fits_one, fits_two, fits_three, fits_all}
use Rattle.hello_read.proofs.sections_fit.Goals as goal

pub returns-then-room-lt4 : goal.returns-then-room-lt4
returns-then-room-lt4 c = search fits_none

pub returns-then-w-a : goal.returns-then-w-a
returns-then-w-a c = search fits_one

pub returns-then-x-b : goal.returns-then-x-b
returns-then-x-b c = search fits_two

pub returns-then-y-c : goal.returns-then-y-c
returns-then-y-c c = search fits_three

pub returns : goal.returns
returns c = search fits_all
