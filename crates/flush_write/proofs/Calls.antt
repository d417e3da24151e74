-- WriterCalls: what the call left at the start of its area is the message, and a refusal left the area.
-- Assumes nothing.
use Prim.Native.Nat.{ℕ, zero, suc, ◌+◌, ◌≤◌}
use mathlib.Core.Bool.{Bool, true, false}
use mathlib.Core.List.{List, [], ◌∷◌, map}
use mathlib.Core.Path.{◌≡◌, refl, sym, ap, ◌∙◌}
use native.Mathlib.Omega.{arith}
use lib.Dec.{leb}
use lib.ListN.{length, take, drop}
use lib.Seq.{take_at, get_or-drop}
use borrow.Author.Tests.{le-leb, leb-true, leb-false}
use Rattle.numbers.specs.Tests.{pick, all_of}
use Rattle.numbers.specs.Result.{Outcome, check, and_then, settled}
use Rattle.numbers.specs.After.{OnArea, on_area}
use Rattle.numbers.specs.Bytes.{AreBytes, num, laid, parts_from, parts}
use Rattle.numbers.proofs.Truth.{both_pass}
use Rattle.numbers.proofs.Answers.{refused_got, check_got}
use Rattle.numbers.proofs.Bytes.{num_part_lt}
use Rattle.convert.specs.Compaction.{written}
use Rattle.flush_write.specs.Writing.{Asked, asked_good, flush_bytes, written_flush}
use Rattle.flush_write.specs.Areas.{nicks_in, areas_whole, asked_in, flush_of, flush_written}
use Rattle.flush_write.specs.Claims.{WriterCalls}
use Rattle.flush_write.proofs.Exact.{writer_exact}
use Rattle.flush_write.proofs.Bounds.{writer_length}
use Rattle.std.specs.Prelude.{Ok, Err}
use Rattle.numbers.specs.declared.refusals.Refusal.TheVariants.{AreaShort, ListsBad}
use Rattle.numbers.specs.declared.refusals.Refusal.{Refusal}

refused_written : {C : Type 0} (m : Refusal) (n : ℕ) → ◌≡◌ {A = (Outcome ℕ)} (Err m) (Ok n) → C
refused_written m n p = let z : ◌≡◌ {A = ℕ} 0 1 = cc in absurd (omega arith)

written-written : (m n : ℕ) → ◌≡◌ {A = (Outcome ℕ)} (Ok m) (Ok n) → m ≡ n
written-written m n p = cc

refused_refused : (m n : Refusal) → ◌≡◌ {A = (Outcome ℕ)} (Err m) (Err n) → m ≡ n
refused_refused m n p = cc

abbrev put : Outcome (List ℕ) → List ℕ → OnArea (Outcome ℕ)
put r out = settled (λ n. on_area (Err n) out) (and_then r λ b. written Ok b out)

abbrev put_if : Bool → List ℕ → List ℕ → OnArea (Outcome ℕ)
put_if c b out = settled (λ n. on_area (Err n) out) (check c AreaShort (Ok (on_area (Ok (length b)) (laid b out))))

-- ---- what was written

fits_wrote : (c : Bool) (b out : List ℕ) (n : ℕ) → (put_if c b out).answer ≡ Ok n → take n (put_if c b out).area ≡ b
unfolding settled check laid
fits_wrote true b out n e = take_at b (drop (length b) out) n (written-written (length b) n e)
fits_wrote false b out n e = refused_written AreaShort n e

put_wrote : (r : Outcome (List ℕ)) (out : List ℕ) (n : ℕ) → (put r out).answer ≡ Ok n → r ≡ Ok (take n (put r out).area)
unfolding settled and_then written
put_wrote (Err m) out n e = refused_written m n e
put_wrote (Ok b) out n e = ap Ok (sym (fits_wrote (leb (length b) (length out)) b out n e))

-- ---- a refusal

fits_refused : (c : Bool) (b out : List ℕ) (n : Refusal) → (put_if c b out).answer ≡ Err n → ((put_if c b out).area ≡ out) × (c ≡ false)
unfolding settled check
fits_refused true b out n e = refused_written n (length b) (sym e)
fits_refused false b out n e = (refl, refl)

put_refused : (r : Outcome (List ℕ)) (out : List ℕ) (n : Refusal) → (put r out).answer ≡ Err n → (put r out).area ≡ out
unfolding settled and_then written
put_refused (Err m) out n e = refl
put_refused (Ok b) out n e = (fits_refused (leb (length b) (length out)) b out n e).0

put_room : (r : Outcome (List ℕ)) (out : List ℕ) (n : Refusal) → ((b : List ℕ) → r ≡ Ok b → length b ≤ length out) → ((m : Refusal) → r ≡ Err m → m ≡ ListsBad) → (put r out).answer ≡ Err n → n ≡ ListsBad
unfolding settled and_then written
put_room (Err m) out n room bad e = sym (refused_refused m n e) ∙ bad m refl
put_room (Ok b) out n room bad e =
    let o = leb-false (length b) (length out) (fits_refused (leb (length b) (length out)) b out n e).1 in
    let h = room b refl in
    absurd (omega arith)

-- ---- a nickname of two bytes has 16 bits

fit_step : (n : ℕ) (l : List ℕ) → AreBytes l → (c : Bool) → leb 2 (length l) ≡ c → all_of (λ x. leb x 0xFFFF) (map num (parts_from 2 n (drop 2 l))) ≡ true
    → all_of (λ x. leb x 0xFFFF) (map num (pick c (take 2 l ∷ parts_from 2 n (drop 2 l)) [])) ≡ true
unfolding pick all_of
fit_step n l bytes true e later =
    let h = num_part_lt l 0 2 bytes (leb-true 2 (length l) e) in
    both_pass (leb (num (take 2 l)) 0xFFFF) _ (le-leb (num (take 2 l)) 0xFFFF (omega arith)) later
fit_step n l bytes false e later = refl

fit_parts : (n : ℕ) (l : List ℕ) → AreBytes l → all_of (λ x. leb x 0xFFFF) (map num (parts_from 2 n l)) ≡ true
unfolding parts_from all_of
fit_parts zero l bytes = refl
fit_parts (suc n) l bytes = fit_step n l bytes (leb 2 (length l)) refl (fit_parts n (drop 2 l) (λ i. rw (get_or-drop 2 l i 0) (bytes (2 + i))))

nicks_fit : (l : List ℕ) → AreBytes l → all_of (λ x. leb x 0xFFFF) (nicks_in l) ≡ true
unfolding nicks_in parts
nicks_fit l bytes = fit_parts (length l) l bytes

-- ---- before 16 there is only 23

refused_same : (m n : Refusal) → ◌≡◌ {A = Outcome (List ℕ)} (Err m) (Err n) → n ≡ m
refused_same m n p = cc

check_bad : (c d : Bool) (l : List ℕ) (m : Refusal) → check c ListsBad (check d ListsBad (Ok l)) ≡ Err m → m ≡ ListsBad
unfolding check
check_bad true true l m e = refused_got m l (sym e)
check_bad true false l m e = refused_same ListsBad m e
check_bad false d l m e = refused_same ListsBad m e

only_bad : (c : Bool) (a : Asked) (m : Refusal) → check c ListsBad (written_flush a) ≡ Err m → m ≡ ListsBad
unfolding written_flush
only_bad c a m e = check_bad c (asked_good a) (flush_bytes a) m e

pub writer_calls : WriterCalls
unfolding flush_written flush_of
writer_calls = record {
  exact = λ ns vs fs ms out n bytes e.
      let w = (check_got (areas_whole ns vs fs ms) ListsBad (written_flush (asked_in ns vs fs ms)) _ (put_wrote (flush_of ns vs fs ms) out n e)).1 in
      writer_exact.written (asked_in ns vs fs ms) _ (nicks_fit ns bytes) w;
  refusal = λ ns vs fs ms out n e. put_refused (flush_of ns vs fs ms) out n e;
  room = λ ns vs fs ms out n long e.
      put_room (flush_of ns vs fs ms) out n
      (λ b g.
      let m = writer_length.most (asked_in ns vs fs ms) b (check_got (areas_whole ns vs fs ms) ListsBad (written_flush (asked_in ns vs fs ms)) b g).1 in
      omega arith)
      (λ m g. only_bad (areas_whole ns vs fs ms) (asked_in ns vs fs ms) m g)
      e;
}
