-- `hello_read::put_sections` meets its contract: each section starts where the one before it ends, and all of them fit.
use Rattle.hello_read.proofs.Laws.{all-length, size_22, size_6, size_8, size_23, sections_put}
use Rattle.hello_count.proofs.Sections.{count_22, count_6, count_8, count_23}
use Rattle.hello.specs.Reading.{items}
use native.Mathlib.Omega.{arith}
use Rattle.hello_read.proofs.put_sections.Goals as goal

pub overflow_mul-n : goal.overflow_mul-n
overflow_mul-n c = let l = c.args.l.now in let e = c.requires.0 in let w = size_22 l c.args.c e in let x = size_6 l c.args.c e in let y = size_8 l c.args.c e in let z = size_23 l c.args.c e in let n = all-length (items l) in omega arith

pub overflow_add-n : goal.overflow_add-n
overflow_add-n c = let l = c.args.l.now in let e = c.requires.0 in let w = size_22 l c.args.c e in let x = size_6 l c.args.c e in let y = size_8 l c.args.c e in let z = size_23 l c.args.c e in let n = all-length (items l) in omega arith

pub overflow_mul-t : goal.overflow_mul-t
overflow_mul-t c = let l = c.args.l.now in let e = c.requires.0 in let w = size_22 l c.args.c e in let x = size_6 l c.args.c e in let y = size_8 l c.args.c e in let z = size_23 l c.args.c e in let n = all-length (items l) in omega arith

pub overflow_add-t : goal.overflow_add-t
overflow_add-t c = let l = c.args.l.now in let e = c.requires.0 in let w = size_22 l c.args.c e in let x = size_6 l c.args.c e in let y = size_8 l c.args.c e in let z = size_23 l c.args.c e in let n = all-length (items l) in omega arith

pub overflow_add-t-2 : goal.overflow_add-t-2
overflow_add-t-2 c = let l = c.args.l.now in let e = c.requires.0 in let w = size_22 l c.args.c e in let x = size_6 l c.args.c e in let y = size_8 l c.args.c e in let z = size_23 l c.args.c e in let n = all-length (items l) in omega arith

pub overflow_mul-m : goal.overflow_mul-m
overflow_mul-m c = let l = c.args.l.now in let e = c.requires.0 in let w = size_22 l c.args.c e in let x = size_6 l c.args.c e in let y = size_8 l c.args.c e in let z = size_23 l c.args.c e in let n = all-length (items l) in omega arith

pub overflow_add-m : goal.overflow_add-m
overflow_add-m c = let l = c.args.l.now in let e = c.requires.0 in let w = size_22 l c.args.c e in let x = size_6 l c.args.c e in let y = size_8 l c.args.c e in let z = size_23 l c.args.c e in let n = all-length (items l) in omega arith

pub overflow_add-m-2 : goal.overflow_add-m-2
overflow_add-m-2 c = let l = c.args.l.now in let e = c.requires.0 in let w = size_22 l c.args.c e in let x = size_6 l c.args.c e in let y = size_8 l c.args.c e in let z = size_23 l c.args.c e in let n = all-length (items l) in omega arith

pub geninfo_sections-requires : goal.geninfo_sections-requires
geninfo_sections-requires c = let l = c.args.l.now in let e = c.requires.0 in let w = size_22 l c.args.c e in let x = size_6 l c.args.c e in let y = size_8 l c.args.c e in let z = size_23 l c.args.c e in let n = all-length (items l) in ((count_22 (items l) c.args.c e, count_23 (items l) c.args.c e), (omega arith, omega arith))

pub capability_sections-requires : goal.capability_sections-requires
capability_sections-requires c = let l = c.args.l.now in let e = c.requires.0 in let w = size_22 l c.args.c e in let x = size_6 l c.args.c e in let y = size_8 l c.args.c e in let z = size_23 l c.args.c e in let n = all-length (items l) in ((count_6 (items l) c.args.c e, count_8 (items l) c.args.c e), (omega arith, omega arith))

pub overflow_mul-result : goal.overflow_mul-result
overflow_mul-result c = let l = c.args.l.now in let e = c.requires.0 in let w = size_22 l c.args.c e in let x = size_6 l c.args.c e in let y = size_8 l c.args.c e in let z = size_23 l c.args.c e in let n = all-length (items l) in omega arith

pub overflow_add-result : goal.overflow_add-result
overflow_add-result c = let l = c.args.l.now in let e = c.requires.0 in let w = size_22 l c.args.c e in let x = size_6 l c.args.c e in let y = size_8 l c.args.c e in let z = size_23 l c.args.c e in let n = all-length (items l) in omega arith

pub overflow_add-result-2 : goal.overflow_add-result-2
overflow_add-result-2 c = let l = c.args.l.now in let e = c.requires.0 in let w = size_22 l c.args.c e in let x = size_6 l c.args.c e in let y = size_8 l c.args.c e in let z = size_23 l c.args.c e in let n = all-length (items l) in omega arith

pub returns : goal.returns
returns c = let l = c.args.l.now in let e = c.requires.0 in let w = size_22 l c.args.c e in let x = size_6 l c.args.c e in let y = size_8 l c.args.c e in let z = size_23 l c.args.c e in let n = all-length (items l) in (search (sections_put, w, x, y), omega arith)
