-- `hello_fill::sections` meets its contract: the counts, and then what each TLV brings.
use native.Mathlib.Omega.{arith}
use Rattle.hello_fill.proofs.Subs.{count_first, count-second, section_size, sections_put, sections_empty}
use Rattle.hello_fill.proofs.sections.Goals as goal

pub put_word-requires : goal.put_word-requires
put_word-requires g c = search (count_first g.row.FIRST g.row.SECOND)

pub put_word-requires-2 : goal.put_word-requires-2
put_word-requires-2 g c = search (count-second g.row.FIRST g.row.SECOND)

pub returns-then-both_zero : goal.returns-then-both_zero
returns-then-both_zero g c = search (sections_empty g.row.FIRST g.row.SECOND)

pub fill_tlvs-requires-clause-room : goal.fill_tlvs-requires-clause-room
fill_tlvs-requires-clause-room g c = let l = c.args.l.now in let x = section_size g.row.FIRST l in let y = section_size g.row.SECOND l in (omega arith, omega arith)

pub returns : goal.returns
returns g c = search (sections_put g.row.FIRST g.row.SECOND)
