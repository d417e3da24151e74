-- What sending answers: by cases on the settings, the room, whether the frame passes the checks, whether Compact is on and whether the
-- inner destination may be compacted. Where there is room for every compaction, compaction finds it too.
-- Assumes nothing.
use Prim.Native.Nat.{ℕ}
use native.Mathlib.Omega.{arith}
use mathlib.Core.Bool.{Bool, true, false, not}
use mathlib.Core.List.{List}
use mathlib.Core.Logic.{◌↔◌, ◌⊎◌, inl, inr, ⊎_elim}
use mathlib.Core.Path.{◌≡◌, refl, sym, ap, ◌∙◌}
use lib.Dec.{leb}
use lib.ListN.{length}
use Rattle.numbers.specs.Tests.{pick, both}
use Rattle.numbers.specs.Result.{Outcome, check, and_then, settled}
use Rattle.numbers.specs.After.{OnArea, on_area}
use Rattle.numbers.specs.Bytes.{num, laid}
use Rattle.numbers.proofs.Answers.{refused_got, got_got}
use Rattle.frame.specs.Settings.{settings_good, compact_on}
use Rattle.frame.specs.Fields.{Fields}
use Rattle.frame.specs.declared.Settings.{Settings}
use Rattle.convert.specs.Compaction.{compact_bytes, stays_general, general_frame, general_fields, compacting, written, compacted}
use Rattle.convert.specs.Sending.{room_good, sent_fields, sending, sent}
use Rattle.convert.specs.Claims.{SendsExactly}
use Rattle.convert.proofs.Room.{room_fits}
use Rattle.std.specs.Prelude.{Option, Some, None, Ok, Err}
use Rattle.numbers.specs.declared.refusals.Refusal.TheVariants.{SettingsBad, AreaShort, NotCompactable}
use Rattle.numbers.specs.declared.refusals.Refusal.{Refusal}

-- two answers that differ make any two numbers equal
apart : {C : Type 0} → ◌≡◌ {A = ℕ} 0 1 → C
apart e = absurd (omega arith)

-- both calls on the settings' test, the test of the room and what the frame's checks gave
module _ (stays : Fields → Bool) (work : List ℕ) where
  abbrev sent_by : Bool → Bool → Outcome Fields → Bool → OnArea (Outcome (Option ℕ))
  sent_by good room r on =
      settled (λ n. on_area (Err n) work)
      (check good SettingsBad
      (check room AreaShort
      (and_then r λ p. Ok (pick (both on (not (stays p))) (on_area (Ok (Some (length (compact_bytes p)))) (laid (compact_bytes p) work)) (on_area (Ok None) work)))))

  abbrev compacted_by : Bool → Outcome Fields → OnArea (Outcome ℕ)
  compacted_by good r =
      settled (λ n. on_area (Err n) work)
      (and_then (and_then (check good SettingsBad r) λ p. check (not (stays p)) NotCompactable (Ok (compact_bytes p))) λ b. written Ok b work)

  abbrev ItselfBy : Outcome Fields → Bool → Type 0
  ItselfBy r on = (p : Fields) × (r ≡ Ok p) × ((stays p ≡ true) ⊎ (on ≡ false))

  abbrev RefusesBy : Bool → Bool → Outcome Fields → Bool → OnArea (Outcome ℕ) → Refusal → Type 0
  RefusesBy good room r on c n =
      ((room ≡ true) × (ItselfBy r on → ⊥) × (c.answer ≡ Err n))
      ⊎ ((room ≡ false) × (pick good AreaShort SettingsBad ≡ n))

  record Exactly (good room : Bool) (r : Outcome Fields) (on : Bool) (a : OnArea (Outcome (Option ℕ))) (c : OnArea (Outcome ℕ)) : Type 0 where
    itself : (a.answer ≡ (Ok None)) ↔ ((room ≡ true) × ItselfBy r on)
    part : (n : ℕ) → (a.answer ≡ (Ok (Some n))) ↔ ((room ≡ true) × (on ≡ true) × (c.answer ≡ Ok n))
    area : (n : ℕ) → a.answer ≡ (Ok (Some n)) → a.area ≡ c.area
    refusal : (n : Refusal) → (a.answer ≡ Err n) ↔ RefusesBy good room r on c n

  -- no room: 16, or 1 before it
  as_short : (good : Bool) (r : Outcome Fields) (on : Bool) (c : OnArea (Outcome ℕ)) → Exactly good false r on (on_area (Err (pick good AreaShort SettingsBad)) work) c
  as_short good r on c = record {
    itself = (λ e. apart cc, λ j. apart cc);
    part = λ n. (λ e. apart cc, λ h. apart cc);
    area = λ n e. cc;
    refusal = λ n. (λ e. inr (refl, cc), λ h. ⊎_elim (λ x. apart cc) (λ x. ap Err x.1) h);
  }

  -- the frame itself, whatever compaction gives
  as_itself : (good : Bool) (r : Outcome Fields) (on : Bool) (c : OnArea (Outcome ℕ)) → ItselfBy r on → ((n : ℕ) → on ≡ true → c.answer ≡ Ok n → ⊥) → Exactly good true r on (on_area (Ok None) work) c
  as_itself good r on c i none = record {
    itself = (λ e. (refl, i), λ j. refl);
    part = λ n. (λ e. apart cc, λ h. absurd (none n h.1 h.2));
    area = λ n e. cc;
    refusal = λ n. (λ e. apart cc, λ h. ⊎_elim (λ x. absurd (x.1 i)) (λ x. apart cc) h);
  }

  -- a refusal, which is compaction's
  as_refused : (good : Bool) (r : Outcome Fields) (on : Bool) (k : Refusal) → (ItselfBy r on → ⊥) → Exactly good true r on (on_area (Err k) work) (on_area (Err k) work)
  as_refused good r on k none = record {
    itself = (λ e. apart cc, λ j. absurd (none j.1));
    part = λ n. (λ e. apart cc, λ h. let z = h.2 in apart cc);
    area = λ n e. cc;
    refusal = λ n. (λ e. inl (refl, none, cc), λ h. ⊎_elim (λ x. let z = x.2 in cc) (λ x. apart cc) h);
  }

  -- a part, which is compaction's
  as_part : (good : Bool) (r : Outcome Fields) (k : ℕ) (area : List ℕ) → (ItselfBy r true → ⊥) → Exactly good true r true (on_area (Ok (Some k)) area) (on_area (Ok k) area)
  as_part good r k area none = record {
    itself = (λ e. apart cc, λ j. absurd (none j.1));
    part = λ n. (λ e. (refl, refl, cc), λ h. let z = h.2 in cc);
    area = λ n e. refl;
    refusal = λ n. (λ e. apart cc, λ h. ⊎_elim (λ x. let z = x.2 in apart cc) (λ x. apart cc) h);
  }

  module _ (p : Fields) where
    abbrev bytes : List ℕ
    bytes = compact_bytes p

    -- another inner destination, and Compact on: what is compacted is sent
    none : stays p ≡ false → ItselfBy (Ok p) true → ⊥
    none e j =
        ⊎_elim
        (λ h. let same = got_got p j.0 j.1 in let z : ◌≡◌ {A = Bool} true false = sym h ∙ ap stays (sym same) ∙ e in apart cc)
        (λ h. apart cc)
        j.2

    by_destination : (on z : Bool) → stays p ≡ z → leb (length bytes) (length work) ≡ true
        → Exactly true true (Ok p) on (pick (both on (not z)) (on_area (Ok (Some (length bytes))) (laid bytes work)) (on_area (Ok None) work))
        (settled (λ n. on_area (Err n) work) (and_then (check (not z) NotCompactable (Ok bytes)) λ b. written Ok b work))
    unfolding settled and_then check pick both written
    by_destination false z e fits = as_itself true (Ok p) false _ (p, refl, inr refl) (λ n h k. apart cc)
    by_destination true true e fits = as_itself true (Ok p) true _ (p, refl, inl e) (λ n h k. apart cc)
    by_destination true false e fits = rw fits (as_part true (Ok p) (length bytes) (laid bytes work) (none e))

  exactly : (good room : Bool) (r : Outcome Fields) (on : Bool)
      → (room ≡ true → (p : Fields) → r ≡ Ok p → leb (length (compact_bytes p)) (length work) ≡ true)
      → Exactly good room (check good SettingsBad r) on (sent_by good room r on) (compacted_by good r)
  unfolding settled and_then check pick
  exactly false false r on fits = as_short false _ on _
  exactly false true r on fits = as_refused false _ on SettingsBad (λ j. refused_got SettingsBad j.0 j.1)
  exactly true false r on fits = as_short true r on _
  exactly true true (Err k) on fits = as_refused true (Err k) on k (λ j. refused_got k j.0 j.1)
  exactly true true (Ok p) on fits = by_destination p on (stays p) refl (fits refl p refl)

module _ (s : Settings) (f work : List ℕ) where
  sends : Exactly (λ p. stays_general s (num p.dst)) work (settings_good s) (room_good work) (general_fields s f) (compact_on s) (sent s f work) (compacted s f work)
  unfolding sent sending sent_fields compacted compacting general_fields
  sends = exactly (λ p. stays_general s (num p.dst)) work (settings_good s) (room_good work) (general_frame s f) (compact_on s) (room_fits s f work)

  seventeen : (p : Fields) → general_fields s f ≡ Ok p → stays_general s (num p.dst) ≡ true → (compacted s f work).answer ≡ Err NotCompactable
  unfolding compacted compacting settled and_then check
  seventeen p e h = rw (e, h)

pub sends_exactly : SendsExactly
sends_exactly = record {
  itself = λ s f work. (sends s f work).itself;
  part = λ s f work n. (sends s f work).part n;
  area = λ s f work n e. (sends s f work).area n e;
  refusal = λ s f work n. (sends s f work).refusal n;
  seventeen = seventeen;
}
