-- The laws at the calls: the area of what was read is read back, since a payload has fewer pieces than bytes.
-- Assumes nothing.
use Prim.Native.Nat.{ℕ, zero, suc, ◌+◌, ◌^◌, ◌<◌, ◌≤◌}
use mathlib.Core.Bool.{Bool, true, false}
use mathlib.Core.List.{List, [], ◌∷◌, map, flat_map}
use mathlib.Core.Path.{◌≡◌, refl, sym, ap, ◌∙◌, subst}
use native.Mathlib.Omega.{arith}
use lib.Dec.{leb, ltb, eqb}
use lib.ListN.{length, drop, get_or, length-append, length-drop, length-map}
use borrow.Author.Tests.{leb-true, leb-false, lt-ltb, ltb-true}
use Rattle.numbers.specs.Tests.{pick, all_of}
use Rattle.numbers.specs.Bytes.{AreBytes, laid}
use Rattle.numbers.specs.Result.{Outcome, check, and_then, settled}
use Rattle.numbers.specs.After.{OnArea, on_area}
use Rattle.numbers.proofs.Truth.{both_true, both_pass}
use Rattle.numbers.proofs.Answers.{got_got, then_got}
use Rattle.numbers.proofs.Bytes.{length_part}
use Rattle.hello.specs.Tlvs.{Tlv, tlv, stump, tlv_end, tlvs_from, tlvs}
use Rattle.hello.specs.Pieces.{capability, geninfo, application, geninfo_head, Piece, inside, capability_pieces, geninfo_pieces, tlv_pieces, pieces}
use Rattle.hello.specs.Contents.{Parameters, Nickname, Trees, SmartMac, Contents, Item, parameters, nicknames, trees, smart_mac, ignored, malformed}
use Rattle.hello.specs.Reading.{says, parameters_in, nicknames_in, trees_in, macs_in, gathered, items, hello_read}
use Rattle.hello.specs.Writing.{within, parameters_good, nickname_good, nicknames_good, trees_good, label_top, smart_mac_good, contents_good, most_nicknames, most_trees, most_macs, hello_written}
use Rattle.hello.specs.Area.{counted, alone, parameters_numbers, nickname_numbers, trees_numbers, smart_mac_numbers, numbers_of, area_of, contents_in}
use Rattle.convert.specs.Compaction.{written}
use Rattle.hello.specs.Calls.{area_read, area_written, answered, read_call, write_call, CallsUndo, HelloRefusal}
use Rattle.hello.specs.Form.{PlainForm}
use Rattle.hello.proofs.Lists.{Each, each_append}
use Rattle.hello.proofs.Bounds.{items_good, gathered_good, read_is, read_is_writable}
use Rattle.hello.proofs.RoundTrip.{written_hello_reads}
use Rattle.hello.proofs.Saying.{read_hello_writes}
use Rattle.hello.proofs.Areas.{area_is}
use Rattle.std.specs.Prelude.{Ok, Err}
use Rattle.numbers.specs.declared.refusals.Refusal.TheVariants.{AreaShort}
use Rattle.numbers.specs.declared.refusals.Refusal.{Refusal}

-- ---- fewer pieces than bytes

unfoldable tlv_size : Tlv → ℕ
tlv_size (tlv k v) = 2 + length v
tlv_size stump = 1

unfoldable total : List Tlv → ℕ
total [] = 0
total (t ∷ ts) = tlv_size t + total ts

total-pick : (c : Bool) (xs ys : List Tlv) (n : ℕ) → (c ≡ true → total xs ≤ n) → (c ≡ false → total ys ≤ n) → total (pick c xs ys) ≤ n
unfolding pick
total-pick true xs ys n f g = f refl
total-pick false xs ys n f g = g refl

cut-total : (n : ℕ) (l : List ℕ) → total (tlvs_from n l) ≤ length l
unfolding tlvs_from total tlv_size
cut-total zero l = omega arith
cut-total (suc n) l =
    total-pick (leb (length l) 0) [] _ (length l) (λ _. omega arith) (λ some.
    total-pick (leb (tlv_end l) (length l)) _ _ (length l)
    (λ f.
    let fits : tlv_end l ≤ length l = leb-true (tlv_end l) (length l) f in
    let long = length_part l 2 (get_or l 1 0) fits in
    let d = length-drop (tlv_end l) l in
    let i = cut-total n (drop (tlv_end l) l) in
    omega arith)
    (λ _. omega (arith, leb-false (length l) 0 some)))

tlvs-total : (l : List ℕ) → total (tlvs l) ≤ length l
unfolding tlvs
tlvs-total l = cut-total (length l) l

tlvs_few : (ts : List Tlv) → length ts ≤ total ts
unfolding total tlv_size
tlvs_few [] = omega arith
tlvs_few (tlv k v ∷ ts) = let i = tlvs_few ts in omega arith
tlvs_few (stump ∷ ts) = let i = tlvs_few ts in omega arith

length-pick : (c : Bool) (xs ys : List Piece) (n : ℕ) → length xs ≤ n → length ys ≤ n → length (pick c xs ys) ≤ n
unfolding pick
length-pick true xs ys n p q = p
length-pick false xs ys n p q = q

inside_few : (h : ℕ) (l : List ℕ) → length (map (inside h) (tlvs l)) ≤ length l
inside_few h l =
    let a = length-map (tlvs l) (inside h) in
    let b = tlvs_few (tlvs l) in
    let c = tlvs-total l in
    omega arith

tlv_pieces_few : (t : Tlv) → length (tlv_pieces t) ≤ tlv_size t
unfolding tlv_pieces capability_pieces geninfo_pieces tlv_size
tlv_pieces_few (tlv k v) =
    let a = inside_few 242 (drop 5 v) in
    let b = length-drop 5 v in
    let c = inside_few 251 (drop (geninfo_head v) v) in
    let d = length-drop (geninfo_head v) v in
    length-pick (eqb k capability) _ _ (2 + length v)
    (length-pick (leb 5 (length v)) _ _ (2 + length v) (omega arith) (omega arith))
    (length-pick (eqb k geninfo) _ _ (2 + length v)
    (length-pick (leb 3 (length v)) _ _ (2 + length v)
    (length-pick (eqb (application v) 1) _ _ (2 + length v)
    (length-pick (leb (geninfo_head v) (length v)) _ _ (2 + length v) (omega arith) (omega arith))
    (omega arith))
    (omega arith))
    (omega arith))
tlv_pieces_few stump = omega arith

flat_few : (ts : List Tlv) → length (flat_map tlv_pieces ts) ≤ total ts
unfolding flat_map total
flat_few [] = omega arith
flat_few (t ∷ ts) =
    let a = tlv_pieces_few t in
    let b = flat_few ts in
    let c = length-append (tlv_pieces t) (flat_map tlv_pieces ts) in
    omega arith

items_few : (l : List ℕ) → length (items l) ≤ length l
unfolding pieces
items_few l =
    let a = length-map (flat_map tlv_pieces (tlvs l)) says in
    let b = flat_few (tlvs l) in
    let c = tlvs-total l in
    omega arith

gathered_few : {A : Type 0} (f : Item → List A) → ((i : Item) → length (f i) ≤ 1) → (is : List Item) → length (flat_map f is) ≤ length is
unfolding flat_map
gathered_few f h [] = omega arith
gathered_few f h (i ∷ is) =
    let a = h i in
    let b = gathered_few f h is in
    let c = length-append (f i) (flat_map f is) in
    omega arith

parameters_one : (i : Item) → length (parameters_in i) ≤ 1
unfolding parameters_in
parameters_one (parameters p) = omega arith
parameters_one (nicknames r) = omega arith
parameters_one (trees t) = omega arith
parameters_one (smart_mac m) = omega arith
parameters_one ignored = omega arith
parameters_one malformed = omega arith

nicknames-one : (i : Item) → length (nicknames_in i) ≤ 1
unfolding nicknames_in
nicknames-one (parameters p) = omega arith
nicknames-one (nicknames r) = omega arith
nicknames-one (trees t) = omega arith
nicknames-one (smart_mac m) = omega arith
nicknames-one ignored = omega arith
nicknames-one malformed = omega arith

trees_one : (i : Item) → length (trees_in i) ≤ 1
unfolding trees_in
trees_one (parameters p) = omega arith
trees_one (nicknames r) = omega arith
trees_one (trees t) = omega arith
trees_one (smart_mac m) = omega arith
trees_one ignored = omega arith
trees_one malformed = omega arith

macs-one : (i : Item) → length (macs_in i) ≤ 1
unfolding macs_in
macs-one (parameters p) = omega arith
macs-one (nicknames r) = omega arith
macs-one (trees t) = omega arith
macs-one (smart_mac m) = omega arith
macs-one ignored = omega arith
macs-one malformed = omega arith

-- ---- every number of the contents fits 8 bytes

abbrev Small : ℕ → Type 0
Small n = n < 2 ^ 64

all_small : {A : Type 0} (t : A → Bool) (f : A → List ℕ) → ((x : A) → t x ≡ true → Each Small (f x)) → (xs : List A) → all_of t xs ≡ true → Each Small (flat_map f xs)
unfolding flat_map all_of
all_small t f h [] e = tt
all_small t f h (x ∷ xs) e =
    let q = both_true (t x) (all_of t xs) e in
    each_append Small (f x) (flat_map f xs) (h x q.0) (all_small t f h xs q.1)

counted_small : {A : Type 0} (t : A → Bool) (f : A → List ℕ) → ((x : A) → t x ≡ true → Each Small (f x)) → (xs : List A) → length xs < 2 ^ 64 → all_of t xs ≡ true → Each Small (counted f xs)
unfolding counted
counted_small t f h xs few e = (few, all_small t f h xs e)

small_numbers : (k : ℕ) → 256 ^ k ≤ 2 ^ 64 → (ns : List ℕ) → length ns < 2 ^ 64 → all_of (within k) ns ≡ true → Each Small (counted alone ns)
unfolding alone
small_numbers k h ns few e = counted_small (within k) alone (λ n w. (omega (arith, ltb-true n (256 ^ k) w), tt)) ns few e

parameters_small : (p : Parameters) → parameters_good p ≡ true → Each Small (parameters_numbers p)
unfolding parameters_good parameters_numbers
parameters_small p e =
    let q = both_true (within 2 p.holding) (within 2 p.flags) e in
    let a = ltb-true p.holding (256 ^ 2) q.0 in
    let b = ltb-true p.flags (256 ^ 2) q.1 in
    (omega arith, (omega arith, tt))

nickname_small : (n : Nickname) → nickname_good n ≡ true → Each Small (nickname_numbers n)
unfolding nickname_good nickname_numbers
nickname_small n e =
    let q = both_true (within 1 n.priority) _ e in
    let r = both_true (within 2 n.root) (within 2 n.nickname) q.1 in
    let a = ltb-true n.priority (256 ^ 1) q.0 in
    let b = ltb-true n.root (256 ^ 2) r.0 in
    let c = ltb-true n.nickname (256 ^ 2) r.1 in
    (omega arith, (omega arith, (omega arith, tt)))

nicknames_small : (r : List Nickname) → nicknames_good r ≡ true → Each Small (counted nickname_numbers r)
unfolding nicknames_good
nicknames_small r e =
    let q = both_true (leb (length r) most_nicknames) (all_of nickname_good r) e in
    let few = leb-true (length r) most_nicknames q.0 in
    counted_small nickname_good nickname_numbers nickname_small r (omega arith) q.1

trees_small : (t : Trees) → trees_good t ≡ true → Each Small (trees_numbers t)
unfolding trees_good trees_numbers
trees_small t e =
    let q = both_true (within 2 t.start) _ e in
    let r = both_true (leb (length t.nicknames) most_trees) (all_of (within 2) t.nicknames) q.1 in
    let a = ltb-true t.start (256 ^ 2) q.0 in
    let few = leb-true (length t.nicknames) most_trees r.0 in
    (omega arith, small_numbers 2 (omega arith) t.nicknames (omega arith) r.1)

label_small : (c : Bool) (n : ℕ) → n < pick c (2 ^ 24) (2 ^ 12) → Small n
unfolding pick
label_small true n h = omega arith
label_small false n h = omega arith

smart_mac_small : (m : SmartMac) → smart_mac_good m ≡ true → Each Small (smart_mac_numbers m)
unfolding smart_mac_good smart_mac_numbers
smart_mac_small m e =
    let a = both_true (leb m.fine 1) _ e in
    let b = both_true (leb m.multihomed 1) _ a.1 in
    let c = both_true (ltb m.label (label_top m.fine)) _ b.1 in
    let d = both_true (leb (length m.macs) most_macs) (all_of (within 6) m.macs) c.1 in
    let f = leb-true m.fine 1 a.0 in
    let g = leb-true m.multihomed 1 b.0 in
    let few = leb-true (length m.macs) most_macs d.0 in
    (omega arith, (omega arith, (label_small (eqb m.fine 1) m.label (ltb-true m.label (label_top m.fine) c.0), small_numbers 6 (omega arith) m.macs (omega arith) d.1)))

numbers_small : (is : List Item) → length is < 2 ^ 64 → contents_good (gathered is) ≡ true → Each Small (numbers_of (gathered is))
unfolding contents_good numbers_of
numbers_small is few e =
    let c = gathered is in
    let a = both_true (all_of parameters_good c.parameters) _ e in
    let b = both_true (all_of nicknames_good c.nicknames) _ a.1 in
    let d = both_true (all_of trees_good c.trees) (all_of smart_mac_good c.macs) b.1 in
    let p = gathered_few parameters_in parameters_one is in
    let n = gathered_few nicknames_in nicknames-one is in
    let t = gathered_few trees_in trees_one is in
    let m = gathered_few macs_in macs-one is in
    each_append Small (counted parameters_numbers c.parameters) _ (counted_small parameters_good parameters_numbers parameters_small c.parameters (omega arith) a.0)
    (each_append Small (counted (counted nickname_numbers) c.nicknames) _ (counted_small nicknames_good (counted nickname_numbers) nicknames_small c.nicknames (omega arith) b.0)
    (each_append Small (counted trees_numbers c.trees) _ (counted_small trees_good trees_numbers trees_small c.trees (omega arith) d.0)
    (counted_small smart_mac_good smart_mac_numbers smart_mac_small c.macs (omega arith) d.1)))

small_within : (ns : List ℕ) → Each Small ns → all_of (within 8) ns ≡ true
unfolding all_of
small_within [] p = refl
small_within (n ∷ ns) p = both_pass (within 8 n) (all_of (within 8) ns) (lt-ltb n (256 ^ 8) p.0) (small_within ns p.1)

-- the area of what was read is taken back
area-taken : (l : List ℕ) (c : Contents) → AreBytes l → length l < 2 ^ 64 → hello_read l ≡ Ok c → contents_in (area_of c) ≡ Ok c
area-taken l c b short e =
    let r = read_is l c e in
    let few = items_few l in
    let good = gathered_good (items l) (items_good l b) in
    let small = subst (λ (x : Contents). Each Small (numbers_of x)) r.1 (numbers_small (items l) (omega arith) good) in
    area_is.bytes_back c (small_within (numbers_of c) small)

-- ---- the calls

-- what is made of a value
then_pass : {A B : Type 0} (x : Outcome A) (k : A → Outcome B) (a : A) → x ≡ Ok a → and_then x k ≡ k a
unfolding and_then
then_pass x k a e = rw e

written_reads : (a l : List ℕ) → AreBytes a → area_written a ≡ Ok l → area_read l ≡ Ok a
unfolding area_written area_read
written_reads a l b e =
    let p = then_got (contents_in a) hello_written l e in
    then_pass (hello_read l) _ p.0 (written_hello_reads p.0 l p.2) ∙ ap Ok (area_is.bytes_only a p.0 b p.1)

area_writes : (l a w : List ℕ) (c : Contents) → AreBytes l → length l < 2 ^ 64 → hello_read l ≡ Ok c → area_of c ≡ a → hello_written c ≡ Ok w → area_written a ≡ Ok w
unfolding area_written
area_writes l a w c b short e f g =
    then_pass (contents_in a) hello_written c (ap contents_in (sym f) ∙ area-taken l c b short e) ∙ g

read_writes : (l a : List ℕ) → AreBytes l → length l < 2 ^ 64 → PlainForm l → area_read l ≡ Ok a → area_written a ≡ Ok l
unfolding area_read
read_writes l a b short form e =
    let p = then_got (hello_read l) (λ c. Ok (area_of c)) a e in
    area_writes l a l p.0 b short p.1 (got_got (area_of p.0) a p.2) (read_hello_writes l p.0 b p.1 form)

read_writable : (l a : List ℕ) → AreBytes l → length l < 2 ^ 64 → area_read l ≡ Ok a → (w : List ℕ) × (area_written a ≡ Ok w)
unfolding area_read
read_writable l a b short e =
    let p = then_got (hello_read l) (λ c. Ok (area_of c)) a e in
    let w = read_is_writable l p.0 b p.1 in
    (w.0, area_writes l a w.0 p.0 b short p.1 (got_got (area_of p.0) a p.2) w.1)

pub calls_undo : CallsUndo
calls_undo = record { written_reads = written_reads; read_writes = read_writes; read_writable = read_writable }

-- ---- a refusal

refused_written : {C : Type 0} (m : Refusal) (n : ℕ) → ◌≡◌ {A = (Outcome ℕ)} (Err m) (Ok n) → C
refused_written m n p = let z : ◌≡◌ {A = ℕ} 0 1 = cc in absurd (omega arith)

abbrev put_if : Bool → List ℕ → List ℕ → OnArea (Outcome ℕ)
put_if c b out = settled (λ n. on_area (Err n) out) (check c AreaShort (Ok (on_area (Ok (length b)) (laid b out))))

fits_refused : (c : Bool) (b out : List ℕ) (n : Refusal) → (put_if c b out).answer ≡ Err n → (put_if c b out).area ≡ out
unfolding settled check
fits_refused true b out n e = refused_written n (length b) (sym e)
fits_refused false b out n e = refl

answered_refused : (r : Outcome (List ℕ)) (out : List ℕ) (n : Refusal) → (answered r out).answer ≡ Err n → (answered r out).area ≡ out
unfolding answered settled and_then written
answered_refused (Err m) out n e = refl
answered_refused (Ok b) out n e = fits_refused (leb (length b) (length out)) b out n e

pub hello_refusal : HelloRefusal
unfolding read_call write_call
hello_refusal = record {
  read = λ payload contents n e. answered_refused (area_read payload) contents n e;
  write = λ contents out n e. answered_refused (area_written contents) out n e;
}
