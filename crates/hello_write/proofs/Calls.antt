-- A contents area that passed its judgement: its payload, and each way out of the call.
-- Assumes nothing.
use Prim.Native.Nat.{ℕ, ◌%◌, ◌<◌, ◌≤◌}
use mathlib.Core.Bool.{Bool, true, false}
use mathlib.Core.List.{List, ◌∷◌, ◌++◌}
use mathlib.Core.Path.{◌≡◌, refl, sym, ap, ◌∙◌}
use native.Mathlib.Omega.{arith}
use lib.Dec.{leb, eqb}
use lib.ListN.{length, get_or}
use borrow.Author.Tests.{le-leb, lt-leb, leb-true}
use Rattle.numbers.specs.Tests.{pick, either}
use Rattle.numbers.specs.Bytes.{laid}
use Rattle.numbers.specs.Result.{Outcome, check, and_then, settled, finished}
use Rattle.numbers.specs.After.{on_area}
use Rattle.numbers.proofs.Answers.{got_got, refused_got}
use Rattle.convert.specs.Compaction.{written}
use Rattle.frame_copy.proofs.Copying.{paste_laid}
use Rattle.hello.specs.Pieces.{Sub}
use Rattle.hello.specs.Writing.{tlvs_of}
use Rattle.hello.specs.Area.{Taken, take_many}
use Rattle.hello.specs.Calls.{area_written, answered, write_call}
use Rattle.hello_area.specs.Entries.{numbers_in, take_sub, take_subs, entries_written, end_in, reach, sub_at, subs_at}
use Rattle.hello_area.proofs.Places.{reach_in}
use Rattle.hello_area.proofs.Whole.{entries_are}
use Rattle.hello_put.specs.Placing.{unopened, stepped_all, placed_all}
use Rattle.hello_put.proofs.Placed.{size_is, bytes_are}
use Rattle.hello_write.specs.Sections.{section_at, section_end, subs_in}
use Rattle.hello_write.proofs.Taking.{first_within, section_is, within_22, subs_found}
use Rattle.hello_write.proofs.Walking.{sub_holder}
use Rattle.std.specs.Prelude.{Ok, Err}
use Rattle.numbers.specs.declared.refusals.Refusal.TheVariants.{AreaShort, HelloMalformed, ParametersMissing}
use Rattle.numbers.specs.declared.refusals.Refusal.{Refusal}
use Rattle.hello.specs.Reading.{refusal_of}

-- ---- what the judgement says

passed : {A : Type 0} (b : Bool) (n : Refusal) (x : Outcome A) → refusal_of (check b n x) ≡ finished → (b ≡ true) × ((check b n x ≡ x) × (refusal_of x ≡ finished))
unfolding check
passed true n x e = (refl, (refl, e))
passed false n x e = refused_got n _ e

pub record Judged (area : List ℕ) : Type 0 where
  pub took : Taken (List Sub)
  pub is : take_subs (numbers_in area) ≡ Ok took
  pub one : get_or (numbers_in area) 0 0 ≡ 1
  pub payload : entries_written area ≡ Ok (tlvs_of took.value)

judged : (area : List ℕ) → refusal_of (entries_written area) ≡ finished → Judged area
unfolding entries_written and_then
judged area none = whole (passed (eqb (length area % 8) 0) HelloMalformed _ none)
  where
    rest : Taken (List Sub) → Outcome (List ℕ)
    rest t = check (leb (length t.rest) 0) HelloMalformed (check (leb (get_or (numbers_in area) 0 0) 1) HelloMalformed (check (leb 1 (get_or (numbers_in area) 0 0)) ParametersMissing (Ok (tlvs_of t.value))))

    taking : (z : Outcome (Taken (List Sub))) → take_subs (numbers_in area) ≡ z → refusal_of (and_then z rest) ≡ finished → entries_written area ≡ and_then z rest → Judged area
    taking (Err m) q e w = refused_got m _ e
    taking (Ok t) q e w =
        let a = passed (leb (length t.rest) 0) HelloMalformed _ e in
        let b = passed (leb (get_or (numbers_in area) 0 0) 1) HelloMalformed _ a.1.1 in
        let c = passed (leb 1 (get_or (numbers_in area) 0 0)) ParametersMissing _ b.1.1 in
        let x = leb-true (get_or (numbers_in area) 0 0) 1 b.0 in
        let y = leb-true 1 (get_or (numbers_in area) 0 0) c.0 in
        record { took = t; is = q; one = omega arith; payload = w ∙ a.1.0 ∙ b.1.0 ∙ c.1.0 }

    whole : (eqb (length area % 8) 0 ≡ true) × ((entries_written area ≡ and_then (take_subs (numbers_in area)) rest) × (refusal_of (and_then (take_subs (numbers_in area)) rest) ≡ finished)) → Judged area
    whole p = taking (take_subs (numbers_in area)) refl p.1.1 p.1.0

module _ (area : List ℕ) (j : Outcome (Unit {0})) (ej : j ≡ refusal_of (area_written area)) (good : j ≡ finished) where
  abbrev ns : List ℕ
  ns = numbers_in area

  known : Judged area
  known = judged area (sym (ap refusal_of (entries_are area)) ∙ sym ej ∙ good)

  pub ends_within : reach take_subs ns 0 ≤ length ns
  ends_within = let e = reach_in take_subs ns 0 (omega arith) ∙ ap (end_in ns) known.is in omega arith

  payload_is : area_written area ≡ Ok (tlvs_of (subs_in ns))
  payload_is =
      let v = ap (λ (t : Taken (List Sub)). t.value) (got_got _ _ (sym known.is ∙ subs_found ns ends_within)) in
      entries_are area ∙ known.payload ∙ ap (λ (ss : List Sub). Ok (tlvs_of ss)) v

  -- ---- its first sub-TLV is a Smart-Parameters

  rest : List Sub
  rest = section_at 6 ns (section_end 22 ns 0) ++ (section_at 8 ns (section_end 6 ns (section_end 22 ns 0)) ++ section_at 23 ns (section_end 8 ns (section_end 6 ns (section_end 22 ns 0))))

  first_is : subs_in ns ≡ sub_at 22 ns 1 ∷ rest
  unfolding subs_in section_at subs_at rest
  first_is = rw known.one

  first_good : reach (take_sub 22) ns 1 ≤ length ns
  first_good =
      let w = within_22 ns ends_within in
      let e = section_is 22 ns 0 w in
      let f = ap (λ (n : ℕ). reach (take_many (take_sub 22) n) ns 1) known.one in
      first_within 22 ns 0 1 (omega arith)

  first_held : (sub_at 22 ns 1).holder ≡ 0 → ⊥
  unfolding pick either
  first_held e = let h = sub_holder 22 area 1 first_good in absurd (omega arith)

  payload_size : (stepped_all unopened (subs_in ns)).at ≡ length (tlvs_of (subs_in ns))
  payload_size = rw first_is (size_is (sub_at 22 ns 1) rest first_held)

  payload_bytes : (out : List ℕ) → placed_all out unopened (subs_in ns) ≡ laid (tlvs_of (subs_in ns)) out
  payload_bytes out = rw first_is (bytes_are (sub_at 22 ns 1) rest first_held out ∙ paste_laid out (tlvs_of (sub_at 22 ns 1 ∷ rest)))

  -- ---- the ways out

  call_is : (out : List ℕ) → settled (λ n. on_area (Err n) out) (written Ok (tlvs_of (subs_in ns)) out) ≡ write_call area out
  unfolding write_call answered and_then
  call_is out = sym (rw payload_is)

  module _ (out : List ℕ) (n : ℕ) (en : n ≡ (stepped_all unopened (subs_in ns)).at) where
    pub short_way : length out < n → on_area (Err AreaShort) out ≡ write_call area out
    unfolding written settled check
    short_way h =
        let e = payload_size in
        sym (sym (call_is out) ∙ rw (lt-leb (length (tlvs_of (subs_in ns))) (length out) (omega arith)))

    pub written_room : n ≤ length out → (stepped_all unopened (subs_in ns)).at ≤ length out
    written_room h = omega arith

    pub written_way : n ≤ length out → (u : List ℕ) → u ≡ placed_all out unopened (subs_in ns) → on_area (Ok n) u ≡ write_call area out
    unfolding written settled check
    written_way h u eu =
        let e = payload_size in
        sym (sym (call_is out) ∙ rw (le-leb (length (tlvs_of (subs_in ns))) (length out) (omega arith), eu, payload_bytes out, en, payload_size))

refused_call : (r : Outcome (List ℕ)) (out : List ℕ) (j : Outcome (Unit {0})) (n : Refusal) → j ≡ refusal_of r → j ≡ Err n → on_area (Err n) out ≡ answered r out
unfolding answered and_then settled
refused_call (Err m) out j n e d = let same : n ≡ m = cc in rw same
refused_call (Ok b) out j n e d = refused_got n _ (sym d ∙ e)

pub refused_way : (area out : List ℕ) (j : Outcome (Unit {0})) (n : Refusal) → j ≡ refusal_of (area_written area) → j ≡ Err n → on_area (Err n) out ≡ write_call area out
unfolding write_call
refused_way area out j n e d = refused_call (area_written area) out j n e d
