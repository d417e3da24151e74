-- `table_search::lookup` meets its contract: refused, found, or none.
use mathlib.Core.Path.{sym}
use native.Mathlib.Omega.{arith}
use Rattle.table_search.proofs.Laws.{place_within, lookup_refused, lookup_found, lookup_none}
use Rattle.table_search.proofs.lookup.Goals as goal

pub returns-then-not-table_good : goal.returns-then-not-table_good
returns-then-not-table_good c = search lookup_refused

pub overflow_mul-k : goal.overflow_mul-k
overflow_mul-k c = omega (arith, place_within c.args.kind c.args.label c.args.mac c.args.table.now c.in-Some.k (sym c.in-Some.ensures))

pub nickname_at-nickname-requires : goal.nickname_at-nickname-requires
nickname_at-nickname-requires c = omega (arith, place_within c.args.kind c.args.label c.args.mac c.args.table.now c.in-Some.k (sym c.in-Some.ensures))

pub returns-in-Some : goal.returns-in-Some
returns-in-Some c = search lookup_found

pub returns-in-None : goal.returns-in-None
returns-in-None c = search lookup_none
