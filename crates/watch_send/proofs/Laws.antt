-- Each outcome of watched sending, from what sending gave.
-- Assumes nothing.
use Prim.Native.Nat.{ℕ, ◌≤◌, ◌<◌}
use native.Mathlib.Omega.{arith}
use mathlib.Core.Bool.{Bool, true, false, not, ◌&&◌}
use mathlib.Core.List.{List}
use mathlib.Core.Path.{◌≡◌, refl, sym, ap, ◌∙◌}
use lib.Dec.{ltb, eqb}
use lib.ListN.{length, take, drop}
use borrow.Author.Tests.{ltb-true, ltb-false, eq-eqb, ne_eqb}
use Rattle.numbers.specs.Tests.{both}
use Rattle.numbers.specs.Result.{and_then, settled}
use Rattle.numbers.specs.After.{OnArea, on_area}
use Rattle.numbers.specs.Bytes.{num}
use Rattle.numbers.proofs.Steps.{both_fails, both-goes_on}
use Rattle.numbers.proofs.Truth.{and_both, both_right}
use Rattle.frame.specs.Settings.{settings_good, compact_on}
use Rattle.frame_parse.specs.Meaning.{fields_in, Reads}
use Rattle.frame_parse.specs.declared.Parts.{Parts}
use Rattle.frame.specs.declared.Settings.{Settings}
use Rattle.convert.specs.Compaction.{compact_bytes, stays_general, compact_room}
use Rattle.convert.specs.Sending.{sending}
use Rattle.convert_compact.specs.Meaning.{fields_at, filled}
use Rattle.convert_send.specs.Meaning.{sent_where}
use Rattle.convert_send.proofs.Laws.{send_itself, send_put}
use Rattle.watch.specs.Time.{watch_of, ticked, stopped}
use Rattle.watch.specs.Sending.{on_watched, compacts, sent_watched}
use Rattle.watch.specs.declared.Watch.{Watch}
use Rattle.watch.proofs.Stops.{apart}
use Rattle.watch.proofs.Sends.{Outcome, not_sent, itself, part, outcome}
use Rattle.std.specs.Prelude.{Option, Result, Some, None, Ok, Err}
use Rattle.numbers.specs.declared.refusals.Refusal.{Refusal}

-- no second is left
none_left : (n : ℕ) → eqb n 0 ≡ not (ltb 0 n)
none_left n = go (ltb 0 n) refl
  where
    go : (b : Bool) → ltb 0 n ≡ b → eqb n 0 ≡ not b
    go true e = let l : 0 < n = ltb-true 0 n e in ne_eqb n 0 (λ z. absurd (omega arith))
    go false e = let l : n ≤ 0 = ltb-false 0 n e in eq-eqb n 0 (omega arith)

pub compacts_is : (s : Settings) (w : Watch) → (eqb s.compact 1 && eqb w.left 0) ≡ compacts s w
unfolding compacts stopped
compacts_is s w = and_both (eqb s.compact 1) (eqb w.left 0) ∙ ap (both (compact_on s)) (none_left w.left)

-- ---- sending where the stop is tested first

module _ (on : Bool) (s : Settings) (f work : List ℕ) (g : Bool) (eg : g ≡ settings_good s) (ok : g ≡ true) (room : compact_room ≤ length work) (p : Parts) (r : Reads f (fields_at s.port f) (Ok p)) where
  pub stop_itself : on ≡ false → on_area (Ok None) work ≡ sent_where on s f work
  stop_itself h = send_itself on s f work g eg ok room p r (num (take 6 (drop p.dst_offset f))) refl false (both_fails on _ h) refl

  module _ (going : on ≡ true) (a : ℕ) (ea : a ≡ num (take 6 (drop p.dst_offset f))) (m : Bool) (em : m ≡ stays_general s a) where
    pub stays_itself : m ≡ true → on_area (Ok None) work ≡ sent_where on s f work
    stays_itself h = send_itself on s f work g eg ok room p r a ea false (sym (both_right on (not (stays_general s a)) (ap not (sym em ∙ h)))) refl

    pub going_put : m ≡ false → (n : ℕ) (o : List ℕ) → on_area n o ≡ filled (compact_bytes (fields_in f p)) work → on_area (Ok (Some n)) o ≡ sent_where on s f work
    going_put h = send_put on s f work g eg ok room p r a ea true (both-goes_on true on (not (stays_general s a)) going (sym (ap not (sym em ∙ h)))) refl

-- the watch beside what sending gives
module _ (before after : Watch) (work : List ℕ) (a : Result (Option ℕ) Refusal) (o : List ℕ) where
  abbrev Watched : Result (Option ℕ) Refusal → Watch → Result (OnArea (Result (Option ℕ) Refusal)) Refusal → Type 0
  Watched x w r = on_watched x w o ≡ settled (λ n. on_watched (Err n) before work) (and_then r λ b. Ok (on_watched b.answer after b.area))

  abbrev Ran : Result (OnArea (Result (Option ℕ) Refusal)) Refusal → Type 0
  Ran r = on_area a o ≡ settled (λ n. on_area (Err n) work) r

  by_refusal : (n : Refusal) → a ≡ Err n → (r : Result (OnArea (Result (Option ℕ) Refusal)) Refusal) → Outcome r → Ran r → Watched (Err n) before r
  unfolding settled and_then
  by_refusal n e r (not_sent m) ran = ap (λ (b : Result (Option ℕ) Refusal). on_watched b before o) (sym e) ∙ ap (λ (b : OnArea (Result (Option ℕ) Refusal)). on_watched b.answer before b.area) ran
  by_refusal n e r (itself p) ran = let z = ap (λ (x : OnArea (Result (Option ℕ) Refusal)). x.answer) ran in apart cc
  by_refusal n e r (part m p) ran = let z = ap (λ (x : OnArea (Result (Option ℕ) Refusal)). x.answer) ran in apart cc

  -- an answer that is no refusal
  by_answer : (x : Result (Option ℕ) Refusal) → a ≡ x → ((m : Refusal) → x ≡ Err m → ⊥) → (r : Result (OnArea (Result (Option ℕ) Refusal)) Refusal) → Outcome r → Ran r → Watched x after r
  unfolding settled and_then
  by_answer x e none r (not_sent m) ran = absurd (none m (sym e ∙ ap (λ (b : OnArea (Result (Option ℕ) Refusal)). b.answer) ran))
  by_answer x e none r (itself p) ran = ap (λ (b : Result (Option ℕ) Refusal). on_watched b after o) (sym e) ∙ ap (λ (b : OnArea (Result (Option ℕ) Refusal)). on_watched b.answer after b.area) ran
  by_answer x e none r (part m p) ran = ap (λ (b : Result (Option ℕ) Refusal). on_watched b after o) (sym e) ∙ ap (λ (b : OnArea (Result (Option ℕ) Refusal)). on_watched b.answer after b.area) ran

module _ (s : Settings) (clock left reading : ℕ) (f work : List ℕ) (w : Watch) (ew : w ≡ ticked clock (watch_of left reading)) (a : Result (Option ℕ) Refusal) (o : List ℕ) (ran : on_area a o ≡ sent_where (eqb s.compact 1 && eqb w.left 0) s f work) where
  on_is : (eqb s.compact 1 && eqb w.left 0) ≡ compacts s (ticked clock (watch_of left reading))
  on_is = compacts_is s w ∙ ap (compacts s) ew

  ran_sending : on_area a o ≡ settled (λ n. on_area (Err n) work) (sending (compacts s (ticked clock (watch_of left reading))) s f work)
  unfolding sent_where
  ran_sending = ran ∙ ap (λ (on : Bool). settled (λ n. on_area (Err n) work) (sending on s f work)) on_is

  pub watched_refused : (n : Refusal) → a ≡ Err n → on_watched (Err n) (watch_of left reading) o ≡ sent_watched s clock (watch_of left reading) f work
  unfolding sent_watched
  watched_refused n e = by_refusal (watch_of left reading) (ticked clock (watch_of left reading)) work a o n e _ (outcome _ s f work) ran_sending

  pub watched_done : (b : Option ℕ) → a ≡ Ok b → on_watched (Ok b) w o ≡ sent_watched s clock (watch_of left reading) f work
  unfolding sent_watched
  watched_done b e = rw ew (by_answer (watch_of left reading) (ticked clock (watch_of left reading)) work a o (Ok b) e (λ m h. apart cc) _ (outcome _ s f work) ran_sending)
