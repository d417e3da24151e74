-- Watched sending: by what sending gives, stopped or not. Sending that is not refused gives a part or the frame itself.
-- Assumes nothing.
use Prim.Native.Nat.{ℕ}
use mathlib.Core.Bool.{Bool, true, false, not}
use mathlib.Core.List.{List}
use mathlib.Core.Path.{◌≡◌, refl, ap, ◌∙◌}
use lib.ListN.{length}
use Rattle.numbers.specs.Tests.{pick, both}
use Rattle.numbers.specs.Result.{check, and_then, settled}
use Rattle.numbers.specs.After.{OnArea, on_area}
use Rattle.numbers.specs.Bytes.{num, laid}
use Rattle.frame.specs.Settings.{settings_good, compact_on}
use Rattle.frame.specs.Front.{front_of}
use Rattle.frame.specs.Fields.{Fields}
use Rattle.frame.specs.declared.Settings.{Settings}
use Rattle.convert.specs.Compaction.{compact_bytes, stays_general, general_frame}
use Rattle.convert.specs.Sending.{room_good, sent_fields, sending, sent}
use Rattle.watch.specs.Time.{ticked, stopped}
use Rattle.watch.specs.Sending.{OnWatched, on_watched, compacts, sent_watched}
use Rattle.watch.specs.Claims.{OffOf, sent_of, SendingWhileStopped, RefusedWatchStays}
use Rattle.watch.specs.declared.Watch.{Watch}
use Rattle.watch.proofs.Stops.{apart, event_is, event_known}
use Rattle.std.specs.Prelude.{Option, Result, Some, None, Ok, Err}
use Rattle.numbers.specs.declared.refusals.Refusal.TheVariants.{SettingsBad, AreaShort}
use Rattle.numbers.specs.declared.refusals.Refusal.{Refusal}

-- the outcomes of sending: a refusal, or an answer that is none
pub data Outcome : Result (OnArea (Result (Option ℕ) Refusal)) Refusal → Type 0 where
  not_sent : (n : Refusal) → Outcome (Err n)
  itself : (o : List ℕ) → Outcome (Ok (on_area (Ok None) o))
  part : (n : ℕ) (o : List ℕ) → Outcome (Ok (on_area (Ok (Some n)) o))

fields_outcome : (b : Bool) (n : ℕ) (o work : List ℕ) → Outcome (Ok (pick b (on_area (Ok (Some n)) o) (on_area (Ok None) work)))
unfolding pick
fields_outcome true n o work = part n o
fields_outcome false n o work = itself work

checks_outcome : (good room : Bool) (x : Result Fields Refusal) (k : Fields → OnArea (Result (Option ℕ) Refusal)) → ((p : Fields) → Outcome (Ok (k p))) → Outcome (check good SettingsBad (check room AreaShort (and_then x λ p. Ok (k p))))
unfolding check and_then
checks_outcome false room x k h = not_sent SettingsBad
checks_outcome true false x k h = not_sent AreaShort
checks_outcome true true (Err n) k h = not_sent n
checks_outcome true true (Ok p) k h = h p

pub outcome : (on : Bool) (s : Settings) (f work : List ℕ) → Outcome (sending on s f work)
unfolding sending sent_fields
outcome on s f work =
    checks_outcome (settings_good s) (room_good work) (general_frame s f) _
    (λ p. fields_outcome (both on (not (stays_general s (num p.dst)))) (length (compact_bytes p)) (laid (compact_bytes p) work) work)

module _ (before after : Watch) (work : List ℕ) where
  abbrev watched_of : Result (OnArea (Result (Option ℕ) Refusal)) Refusal → OnWatched (Result (Option ℕ) Refusal)
  watched_of r = settled (λ n. on_watched (Err n) before work) (and_then r λ a. Ok (on_watched a.answer after a.area))

  abbrev plain_of : Result (OnArea (Result (Option ℕ) Refusal)) Refusal → OnArea (Result (Option ℕ) Refusal)
  plain_of r = settled (λ n. on_area (Err n) work) r

  -- answer and area are sending's
  as_sent : (r : Result (OnArea (Result (Option ℕ) Refusal)) Refusal) → sent_of (watched_of r) ≡ plain_of r
  unfolding settled and_then
  as_sent (Err n) = refl
  as_sent (Ok a) = refl

  pub record Kept (x : OnWatched (Result (Option ℕ) Refusal)) : Type 0 where
    pub stays : (n : Refusal) → x.answer ≡ Err n → x ≡ on_watched (Err n) before work
    pub moves : ((n : Refusal) → x.answer ≡ Err n → ⊥) → x.watch ≡ after

  kept : (r : Result (OnArea (Result (Option ℕ) Refusal)) Refusal) → Outcome r → Kept (watched_of r)
  unfolding settled and_then
  kept r (not_sent m) = record { stays = λ n e. ap (λ (a : Result (Option ℕ) Refusal). on_watched a before work) e; moves = λ h. absurd (h m refl) }
  kept r (itself o) = record { stays = λ n e. apart cc; moves = λ h. refl }
  kept r (part m o) = record { stays = λ n e. apart cc; moves = λ h. refl }

-- sending reads the port of the settings, and whether they are good
off_same : (s t : Settings) (f work : List ℕ) → OffOf s t → sending false s f work ≡ sending (compact_on t) t f work
unfolding sending sent_fields stays_general front_of
off_same s t f work h = rw (h.1, h.2, h.0)

module _ (s : Settings) (clock : ℕ) (w : Watch) (f work : List ℕ) where
  stops : (t : Settings) → stopped (ticked clock w) ≡ true → OffOf s t → sent_of (sent_watched s clock w f work) ≡ sent t f work
  unfolding sent_watched sent compacts both
  stops t h o = as_sent w (ticked clock w) work _ ∙ ap (plain_of w w work) (ap (λ (b : Bool). sending b s f work) (off (compact_on s) (stopped (ticked clock w)) h) ∙ off_same s t f work o)
    where
      off : (a b : Bool) → b ≡ true → both a (not b) ≡ false
      off true b e = rw e
      off false b e = refl

  sends : stopped (ticked clock w) ≡ false → sent_of (sent_watched s clock w f work) ≡ sent s f work
  unfolding sent_watched sent compacts both
  sends h = as_sent w (ticked clock w) work _ ∙ ap (λ (b : Bool). plain_of w w work (sending b s f work)) (on (compact_on s) (stopped (ticked clock w)) h)
    where
      on : (a b : Bool) → b ≡ false → both a (not b) ≡ a
      on true b e = rw e
      on false b e = refl

  judged : settings_good s ≡ false → sent_watched s clock w f work ≡ on_watched (Err SettingsBad) w work
  unfolding sent_watched sending settled and_then check
  judged h = rw h

  pub sent_kept : Kept w (ticked clock w) work (sent_watched s clock w f work)
  unfolding sent_watched
  sent_kept = kept w (ticked clock w) work _ (outcome (compacts s (ticked clock w)) s f work)

pub sending_while_stopped : SendingWhileStopped
sending_while_stopped = record {
  stops = λ s t clock w f work. stops s clock w f work t;
  sends = sends;
  judged = judged;
}

pub refused_watch_stays : RefusedWatchStays
refused_watch_stays = record {
  event = λ clock kind time n w. (event_is clock kind time w).same n;
  kind = event_known;
  sending = λ s clock n w f work. (sent_kept s clock w f work).stays n;
  accepted = λ s clock w f work. (sent_kept s clock w f work).moves;
}
