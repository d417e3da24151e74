-- Sending with a watch (2026-06).
-- Assumes nothing.
use Rattle.std.specs.Prelude.{ℕ, Bool, not, List, Option, Ok, Err}
use Rattle.numbers.specs.Tests.{both}
use Rattle.numbers.specs.Result.{and_then, settled, Outcome}
use Rattle.frame.specs.Settings.{compact_on}
use Rattle.frame.specs.declared.Settings.{Settings}
use Rattle.convert.specs.Sending.{sending}
use Rattle.watch.specs.Time.{ticked, stopped}
use Rattle.watch.specs.declared.Watch.{Watch}

-- what a call on a watch and an area leaves: its answer, the watch and the area
pub record OnWatched (Answer : Type 0) : Type 0 where
  pub answer : Answer
  pub watch : Watch
  pub area : List ℕ

abbrev pub on_watched : {Answer : Type 0} → Answer → Watch → List ℕ → OnWatched Answer
on_watched a w o = record { answer = a; watch = w; area = o }

-- the same with another form of the answer
abbrev pub watched_as : {A B : Type 0} → (A → B) → OnWatched A → OnWatched B
watched_as f a = on_watched (f a.answer) a.watch a.area

-- "While seconds are left, sending answers as with the far port's Compact off"
unfoldable pub compacts : Settings → Watch → Bool
compacts s w = both (compact_on s) (not (stopped w))

-- the watched sending call: time is taken off first; settings are judged as they arrive; "a refused call leaves the watch as it was,
-- reading included"
unfoldable pub sent_watched : Settings → ℕ → Watch → List ℕ → List ℕ → OnWatched (Outcome (Option ℕ))
sent_watched s clock w f work =
    settled (λ n. on_watched (Err n) w work)
    (and_then (sending (compacts s (ticked clock w)) s f work) λ a.
    Ok (on_watched a.answer (ticked clock w) a.area))
