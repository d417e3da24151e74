-- What stops compaction, and for how long: the calls on a watch alone (2026-06).
-- Assumes nothing.
use Rattle.std.specs.Prelude.{ℕ, ◌+◌, ◌*◌, ◌/◌, leb, eqb, Ok, Err}
use Rattle.numbers.specs.Tests.{pick}
use Rattle.numbers.specs.Result.{check, settled, Outcome}
use Rattle.numbers.specs.Numberings.{at_least}
use Rattle.watch.specs.Time.{watch_of, ticked}
use Rattle.watch.specs.declared.Watch.{Watch}
use Rattle.numbers.specs.declared.refusals.Refusal.TheVariants.{SettingsBad}

-- what a call on a watch leaves: its answer and the watch
pub record OnWatch (Answer : Type 0) : Type 0 where
  pub answer : Answer
  pub watch : Watch

abbrev pub on_watch : {Answer : Type 0} → Answer → Watch → OnWatch Answer
on_watch a w = record { answer = a; watch = w }

-- the same with another form of the answer
abbrev pub watch_as : {A B : Type 0} → (A → B) → OnWatch A → OnWatch B
watch_as f a = on_watch (f a.answer) a.watch

-- the kinds of events, as they are numbered at the boundary
abbrev pub native_frame : ℕ
native_frame = 0

abbrev pub unexpected_hello : ℕ
unexpected_hello = 1

abbrev pub bridge_bpdu : ℕ
bridge_bpdu = 2

abbrev pub lldp_notice : ℕ
lldp_notice = 3

-- "each of the three never under ten seconds"; document 002 for a native frame: "at least ten seconds"
abbrev pub least_stop : ℕ
least_stop = 10

-- "An unexpected Hello stops compaction for twice its holding time", "an LLDP notice for twice its TTL"
unfoldable pub twice_stop : ℕ → ℕ
twice_stop time = at_least least_stop (2 * time)

-- "a bridge BPDU for four times its Hello Time (in 1/256 second, the product rounded up to whole seconds)"
unfoldable pub bpdu_stop : ℕ → ℕ
bpdu_stop time = at_least least_stop ((4 * time + 255) / 256)

-- the stop of an event; the time of a native frame is not read
unfoldable pub stop_of : ℕ → ℕ → ℕ
stop_of kind time =
    pick (eqb kind native_frame) least_stop
    (pick (eqb kind bridge_bpdu) (bpdu_stop time)
    (twice_stop time))

-- "A later event never shortens the stop": the larger of what is left and the event's
unfoldable pub prolonged : ℕ → Watch → Watch
prolonged stop w = watch_of (at_least w.left stop) w.reading

-- a watch with the seconds that it has left
abbrev pub showing : Watch → OnWatch (Outcome ℕ)
showing w = on_watch (Ok w.left) w

-- the reset call: "A fresh or reset watch has no stop and the reading brought"
unfoldable pub reset_to : ℕ → OnWatch (Outcome ℕ)
reset_to clock = showing (watch_of 0 clock)

-- the tick call
unfoldable pub ticked_to : ℕ → Watch → OnWatch (Outcome ℕ)
ticked_to clock w = showing (ticked clock w)

-- the event call: another kind is 1; "a refused call leaves the watch as it was, reading included"
unfoldable pub evented : ℕ → ℕ → ℕ → Watch → OnWatch (Outcome ℕ)
evented clock kind time w =
    settled (λ n. on_watch (Err n) w)
    (check (leb kind lldp_notice) SettingsBad
    (Ok (showing (prolonged (stop_of kind time) (ticked clock w)))))
