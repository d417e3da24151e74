-- What holds of the watch (2026-06), said of the calls.
-- Assumes nothing.
use Rattle.std.specs.Prelude.{ℕ, ◌+◌, ◌-◌, ◌%◌, ◌^◌, ◌≤◌, ◌<◌, true, false, List, [], ◌∷◌, ◌↔◌, ◌⊎◌, ◌≡◌, Option, Ok, Err}
use Rattle.numbers.specs.After.{OnArea, on_area}
use Rattle.frame.specs.Settings.{settings_good, compact_on}
use Rattle.frame.specs.declared.Settings.{Settings}
use Rattle.convert.specs.Sending.{sent}
use Rattle.watch.specs.Time.{watch_of, gone_back, passed, ticked, stopped}
use Rattle.watch.specs.Events.{unexpected_hello, bridge_bpdu, lldp_notice, least_stop, stop_of, evented}
use Rattle.watch.specs.Sending.{OnWatched, on_watched, sent_watched}
use Rattle.watch.specs.declared.Watch.{Watch}
use Rattle.numbers.specs.Result.{Outcome}
use Rattle.numbers.specs.declared.refusals.Refusal.TheVariants.{SettingsBad}
use Rattle.numbers.specs.declared.refusals.Refusal.{Refusal}

-- a watch after a list of readings
unfoldable pub ticked_all : List ℕ → Watch → Watch
ticked_all [] w = w
ticked_all (c ∷ cs) w = ticked_all cs (ticked c w)

-- all the time that passed over a list of readings, `last` being the one before
unfoldable pub passed_over : ℕ → List ℕ → ℕ
passed_over last [] = 0
passed_over last (c ∷ cs) = passed last c + passed_over c cs

-- "A later event never shortens the stop": what is left after it is the larger of what was left and the event's stop, which is ten
-- seconds or more; and so at every later reading
pub record StopNeverShortened : Type 0 where
  pub left : (clock kind time : ℕ) (w : Watch) → (ticked clock w).left ≤ (evented clock kind time w).watch.left
  pub least : (kind time : ℕ) → least_stop ≤ stop_of kind time
  pub stop : (clock kind time n : ℕ) (w : Watch) → (evented clock kind time w).answer ≡ Ok n → stop_of kind time ≤ (evented clock kind time w).watch.left
  pub either : (clock kind time n : ℕ) (w : Watch) → (evented clock kind time w).answer ≡ Ok n
      → ((evented clock kind time w).watch.left ≡ (ticked clock w).left) ⊎ ((evented clock kind time w).watch.left ≡ stop_of kind time)
  pub later : (clock kind time n : ℕ) (w : Watch) (cs : List ℕ) → (evented clock kind time w).answer ≡ Ok n
      → (ticked_all cs (ticked clock w)).left ≤ (ticked_all cs (evented clock kind time w).watch).left

-- the readings of a clock that was at the time t and goes on by these steps
unfoldable pub readings_from : ℕ → List ℕ → List ℕ
readings_from t [] = []
readings_from t (d ∷ ds) = (t + d) % 2 ^ 32 ∷ readings_from (t + d) ds

-- each step is shorter than a clock gone back; all steps together
abbrev pub Short : List ℕ → Type 0
Short [] = Unit {0}
Short (d ∷ ds) = (d < gone_back) × Short ds

unfoldable pub total : List ℕ → ℕ
total [] = 0
total (d ∷ ds) = d + total ds

-- over any list of readings the stop loses what passed, and is over exactly when all of it has passed; over the readings of a clock that
-- goes on, starting again at zero as often as it may, what passed is the time
pub record StopRunsOut : Type 0 where
  pub left : (cs : List ℕ) (w : Watch) → (ticked_all cs w).left ≡ w.left - passed_over w.reading cs
  pub over : (cs : List ℕ) (w : Watch) → (stopped (ticked_all cs w) ≡ false) ↔ (w.left ≤ passed_over w.reading cs)
  pub time : (t : ℕ) (ds : List ℕ) → Short ds → passed_over (t % 2 ^ 32) (readings_from t ds) ≡ total ds

-- settings of the same port, as good as these, with Compact off
abbrev pub OffOf : Settings → Settings → Type 0
OffOf s t = (t.port ≡ s.port) × (settings_good t ≡ settings_good s) × (compact_on t ≡ false)

-- what watched sending answers and writes
abbrev pub sent_of : OnWatched (Outcome (Option ℕ)) → OnArea (Outcome (Option ℕ))
sent_of x = on_area x.answer x.area

-- "While seconds are left, sending answers as with the far port's Compact off"; where none are left it is sending. Settings are judged
-- as they arrive: what is wrong in them is 1, stopped or not
pub record SendingWhileStopped : Type 0 where
  pub stops : (s t : Settings) (clock : ℕ) (w : Watch) (f work : List ℕ) → stopped (ticked clock w) ≡ true → OffOf s t → sent_of (sent_watched s clock w f work) ≡ sent t f work
  pub sends : (s : Settings) (clock : ℕ) (w : Watch) (f work : List ℕ) → stopped (ticked clock w) ≡ false → sent_of (sent_watched s clock w f work) ≡ sent s f work
  pub judged : (s : Settings) (clock : ℕ) (w : Watch) (f work : List ℕ) → settings_good s ≡ false → sent_watched s clock w f work ≡ on_watched (Err SettingsBad) w work

-- "a refused call leaves the watch as it was, reading included"; one that is not refused leaves it at the reading brought
pub record RefusedWatchStays : Type 0 where
  pub event : (clock kind time : ℕ) (n : Refusal) (w : Watch) → (evented clock kind time w).answer ≡ Err n → (evented clock kind time w).watch ≡ w
  pub kind : (clock kind time : ℕ) (w : Watch) → ((evented clock kind time w).answer ≡ Err SettingsBad) ↔ (lldp_notice < kind)
  pub sending : (s : Settings) (clock : ℕ) (n : Refusal) (w : Watch) (f work : List ℕ) → (sent_watched s clock w f work).answer ≡ Err n
      → sent_watched s clock w f work ≡ on_watched (Err n) w work
  pub accepted : (s : Settings) (clock : ℕ) (w : Watch) (f work : List ℕ) → ((n : Refusal) → (sent_watched s clock w f work).answer ≡ Err n → ⊥)
      → (sent_watched s clock w f work).watch ≡ ticked clock w

-- each case by computation
pub record WatchCases : Type 0 where
  pub hello_3 : stop_of unexpected_hello 3 ≡ 10
  pub hello_6 : stop_of unexpected_hello 6 ≡ 12
  pub bpdu_512 : stop_of bridge_bpdu 512 ≡ 10
  pub bpdu_641 : stop_of bridge_bpdu 641 ≡ 11
  pub bpdu_most : stop_of bridge_bpdu 65535 ≡ 1024
  pub lldp_most : stop_of lldp_notice 65535 ≡ 131070
  pub native : (time : ℕ) → stop_of 0 time ≡ 10
  pub wraps : ticked 0x0000_000A (watch_of 30 0xFFFF_FFF0) ≡ watch_of 4 0x0000_000A
  pub back : ticked 99 (watch_of 30 100) ≡ watch_of 30 99
  pub half : ticked 0x8000_0000 (watch_of 30 0) ≡ watch_of 30 0x8000_0000
  pub below_half : ticked 0x7FFF_FFFF (watch_of 30 0) ≡ watch_of 0 0x7FFF_FFFF
