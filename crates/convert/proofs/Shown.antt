-- What the choosing function shows after sending, by the outcomes of sending.
-- Assumes nothing.
use Prim.Native.Nat.{ℕ, ◌≤◌}
use mathlib.Core.Bool.{Bool, true, false, not}
use mathlib.Core.List.{List, [], ◌++◌}
use mathlib.Core.Path.{◌≡◌, refl, sym, ap, ◌∙◌}
use native.Mathlib.Omega.{arith}
use lib.ListN.{length, take, drop}
use lib.Seq.{take-append_seam}
use borrow.Author.Tests.{leb-true}
use Rattle.numbers.specs.Tests.{pick, both}
use Rattle.numbers.specs.Result.{check, and_then, settled}
use Rattle.numbers.specs.After.{OnArea, on_area}
use Rattle.numbers.specs.Bytes.{num, laid}
use Rattle.frame.specs.Settings.{settings_good, compact_on}
use Rattle.frame.specs.Fields.{Fields}
use Rattle.frame.specs.declared.Settings.{Settings}
use Rattle.convert.specs.Compaction.{compact_bytes, stays_general, general_frame, general_fields, compacting, compacted}
use Rattle.convert.specs.Sending.{room_good, sent_fields, sending, sent, chosen}
use Rattle.convert.specs.Claims.{converted}
use Rattle.convert.proofs.Areas.{writes}
use Rattle.convert.proofs.Room.{room_fits}
use Rattle.convert.specs.Chosen.{ChosenSent}
use Rattle.std.specs.Prelude.{Option, Result, Some, None, Ok, Err}
use Rattle.numbers.specs.declared.refusals.Refusal.TheVariants.{SettingsBad, AreaShort, NotCompactable}
use Rattle.numbers.specs.declared.refusals.Refusal.{Refusal}

-- an outcome of sending, `bytes` being the compacted frame or its refusal
data Outcome (bytes : Result (List ℕ) Refusal) (work : List ℕ) : OnArea (Result (Option ℕ) Refusal) → Type 0 where
  left : (n : Refusal) → Outcome bytes work (on_area (Err n) work)
  same : Outcome bytes work (on_area (Ok None) work)
  short : (b : List ℕ) → bytes ≡ Ok b → length b ≤ length work → Outcome bytes work (on_area (Ok (Some (length b))) (laid b work))

module _ (work : List ℕ) where
  -- the compacted frame, where it may be compacted
  abbrev compacted_of : (Fields → Bool) → Result Fields Refusal → Result (List ℕ) Refusal
  compacted_of stays x = and_then x λ p. check (not (stays p)) NotCompactable (Ok (compact_bytes p))

  may_cases : (on t : Bool) (p : Fields) → length (compact_bytes p) ≤ length work
      → Outcome (check (not t) NotCompactable (Ok (compact_bytes p))) work (pick (both on (not t)) (on_area (Ok (Some (length (compact_bytes p)))) (laid (compact_bytes p) work)) (on_area (Ok None) work))
  unfolding pick both check
  may_cases true true p fits = same
  may_cases true false p fits = short (compact_bytes p) refl fits
  may_cases false t p fits = same

  field_cases : (on : Bool) (stays : Fields → Bool) (good room : Bool) (x : Result Fields Refusal)
      → (room ≡ true → (p : Fields) → x ≡ Ok p → length (compact_bytes p) ≤ length work)
      → Outcome (compacted_of stays (check good SettingsBad x)) work
      (settled (λ k. on_area (Err k) work) (check good SettingsBad (check room AreaShort (and_then x λ p. Ok (pick (both on (not (stays p))) (on_area (Ok (Some (length (compact_bytes p)))) (laid (compact_bytes p) work)) (on_area (Ok None) work))))))
  unfolding and_then settled check
  field_cases on stays false room x fits = left SettingsBad
  field_cases on stays true false x fits = left AreaShort
  field_cases on stays true true (Err n) fits = left n
  field_cases on stays true true (Ok p) fits = may_cases on (stays p) p (fits refl p refl)

sent_outcome : (s : Settings) (f work : List ℕ) → Outcome (compacting s f) work (sent s f work)
unfolding sent sending sent_fields compacting general_fields
sent_outcome s f work =
    field_cases work (compact_on s) (λ p. stays_general s (num p.dst)) (settings_good s) (room_good work) (general_frame s f)
    (λ h p e. leb-true (length (compact_bytes p)) (length work) (room_fits s f work h p e))

module _ (s : Settings) (f work : List ℕ) where
  short_shown : (r : OnArea (Result (Option ℕ) Refusal)) → Outcome (compacting s f) work r → (n : ℕ) → r.answer ≡ (Ok (Some n))
      → (converted (compacted s f work) ≡ Ok (chosen r.answer r.area f)) × (length (chosen r.answer r.area f) ≡ n)
  unfolding chosen compacted laid
  short_shown _ (left k) n e = let z : ◌≡◌ {A = ℕ} 0 1 = cc in absurd (omega arith)
  short_shown _ same n e = let z : ◌≡◌ {A = ℕ} 0 1 = cc in absurd (omega arith)
  short_shown _ (short b q fits) n e =
      let seam : take (length b) (b ++ drop (length b) work) ≡ b = take-append_seam b (drop (length b) work) in
      let long : length b ≡ n = cc in
      (writes (compacting s f) work b q fits ∙ ap Ok (sym seam), ap length seam ∙ long)

  itself_shown : (r : OnArea (Result (Option ℕ) Refusal)) → Outcome (compacting s f) work r → r.answer ≡ (Ok None) → chosen r.answer r.area f ≡ f
  unfolding chosen
  itself_shown _ (left k) e = let z : ◌≡◌ {A = ℕ} 0 1 = cc in absurd (omega arith)
  itself_shown _ same e = refl
  itself_shown _ (short b q fits) e = let z : ◌≡◌ {A = ℕ} 0 1 = cc in absurd (omega arith)

  nothing-shown : (r : OnArea (Result (Option ℕ) Refusal)) → Outcome (compacting s f) work r → (n : Refusal) → r.answer ≡ Err n → chosen r.answer r.area f ≡ []
  unfolding chosen
  nothing-shown _ (left k) n e = refl
  nothing-shown _ same n e = let z : ◌≡◌ {A = ℕ} 0 1 = cc in absurd (omega arith)
  nothing-shown _ (short b q fits) n e = let z : ◌≡◌ {A = ℕ} 0 1 = cc in absurd (omega arith)

pub chosen-sent : ChosenSent
chosen-sent s f work =
    let o = sent_outcome s f work in
    record {
      short = short_shown s f work (sent s f work) o;
      itself = itself_shown s f work (sent s f work) o;
      nothing = nothing-shown s f work (sent s f work) o;
    }
