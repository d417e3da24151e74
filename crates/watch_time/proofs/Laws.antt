-- Each outcome of the watch's arithmetic, from facts as the code finds them.
-- Assumes nothing.
use Rattle.std.proofs.Common.{◌≡◌, ℕ, ◌+◌, ◌-◌, ◌%◌, ◌^◌, ◌<◌, ◌≤◌, ap, ◌∙◌, arith, le-ltb, lt-ltb, ne_eqb, le-leb}
use borrow.Author.Tests.{lt-leb}
use Rattle.numbers.specs.Tests.{pick}
use Rattle.numbers.specs.Result.{check, settled}
use Rattle.numbers.specs.Numberings.{at_least}
use Rattle.watch.specs.Time.{watch_of, gone_back, difference, passed, ticked}
use Rattle.watch.specs.Events.{on_watch, native_frame, bridge_bpdu, lldp_notice, least_stop, twice_stop, bpdu_stop, stop_of, prolonged, evented}
use Rattle.watch.specs.declared.Watch.{Watch}
use Rattle.std.specs.Prelude.{Ok, Err}
use Rattle.numbers.specs.declared.refusals.Refusal.TheVariants.{SettingsBad}

-- a wrapped difference of two readings
module _ (last clock d : ℕ) (l : last < 2 ^ 32) (r : clock < 2 ^ 32) (k : d < 2 ^ 32) (e : (d + last) % 2 ^ 32 ≡ clock) where
  is_difference : (clock + 2 ^ 32 - last) % 2 ^ 32 ≡ d
  is_difference = omega arith

  pub passed_on : d < gone_back → d ≡ passed last clock
  unfolding passed difference pick
  passed_on h = rw (is_difference, lt-ltb d gone_back h)

  pub passed_back : gone_back ≤ d → 0 ≡ passed last clock
  unfolding passed difference pick
  passed_back h = rw (is_difference, le-ltb d gone_back h)

-- what is left after a reading
pub ticked_on : (left reading clock d r : ℕ) → d ≡ passed reading clock → r ≡ left - d → watch_of r clock ≡ ticked clock (watch_of left reading)
unfolding ticked
ticked_on left reading clock d r e h = ap (λ (n : ℕ). watch_of n clock) (h ∙ ap (λ (p : ℕ). left - p) e)

-- the stop of each event
pub stop_native : (kind time : ℕ) → kind ≡ native_frame → least_stop ≡ stop_of kind time
unfolding stop_of pick
stop_native kind time e = rw e

pub stop_bpdu : (kind time r : ℕ) → kind ≡ bridge_bpdu → r ≡ bpdu_stop time → r ≡ stop_of kind time
unfolding stop_of pick
stop_bpdu kind time r e h = rw e h

pub stop_twice : (kind time r : ℕ) → (kind ≡ native_frame → ⊥) → (kind ≡ bridge_bpdu → ⊥) → r ≡ twice_stop time → r ≡ stop_of kind time
unfolding stop_of pick
stop_twice kind time r n b h = rw (ne_eqb kind native_frame n, ne_eqb kind bridge_bpdu b) h

-- an event
module _ (clock kind time left reading : ℕ) where
  pub event_unknown : lldp_notice < kind → on_watch (Err SettingsBad) (watch_of left reading) ≡ evented clock kind time (watch_of left reading)
  unfolding evented settled check
  event_unknown h = rw (lt-leb kind lldp_notice h)

  pub event_known : kind ≤ lldp_notice → (w : Watch) → w ≡ ticked clock (watch_of left reading) → (stop : ℕ) → stop ≡ stop_of kind time
      → (r : ℕ) → r ≡ at_least w.left stop → on_watch (Ok r) (watch_of r w.reading) ≡ evented clock kind time (watch_of left reading)
  unfolding evented settled check prolonged
  event_known h w ew stop es r er = rw (le-leb kind lldp_notice h, ← ew, ← es, ← er)
