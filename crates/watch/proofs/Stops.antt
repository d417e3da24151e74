-- The watch alone: what a reading and an event leave of the stop.
-- Assumes nothing.
use Prim.Native.Nat.{ℕ, ◌+◌, ◌-◌, ◌%◌, ◌^◌, ◌≤◌, ◌<◌}
use native.Mathlib.Omega.{arith}
use mathlib.Core.Bool.{Bool, true, false}
use mathlib.Core.List.{List, [], ◌∷◌}
use mathlib.Core.Logic.{◌↔◌, ◌⊎◌, inl, inr}
use mathlib.Core.Path.{◌≡◌, refl}
use lib.Dec.{leb, ltb, eqb}
use borrow.Author.Tests.{leb-true, leb-false, lt-leb, lt-ltb, le-ltb, ltb-false}
use Rattle.numbers.specs.Tests.{pick}
use Rattle.numbers.specs.Result.{check, settled, Outcome}
use Rattle.numbers.specs.Numberings.{at_least}
use Rattle.watch.specs.Time.{watch_of, gone_back, difference, passed, ticked, stopped}
use Rattle.watch.specs.Events.{OnWatch, on_watch, showing, native_frame, bridge_bpdu, lldp_notice, least_stop, twice_stop, bpdu_stop, stop_of, prolonged, evented}
use Rattle.watch.specs.Claims.{ticked_all, passed_over, readings_from, Short, total, StopNeverShortened, StopRunsOut, WatchCases}
use Rattle.watch.specs.declared.Watch.{Watch}
use Rattle.std.specs.Prelude.{Ok, Err}
use Rattle.numbers.specs.declared.refusals.Refusal.TheVariants.{SettingsBad}
use Rattle.numbers.specs.declared.refusals.Refusal.{Refusal}

-- two answers that differ make any two numbers equal
pub apart : {C : Type 0} → ◌≡◌ {A = ℕ} 0 1 → C
apart e = absurd (omega arith)

-- ---- the larger of two numbers

first_least : (m n : ℕ) → m ≤ at_least m n
unfolding at_least pick
first_least m n = go (leb m n) refl
  where
    go : (b : Bool) → leb m n ≡ b → m ≤ pick b n m
    go true e = leb-true m n e
    go false e = omega arith

second_least : (m n : ℕ) → n ≤ at_least m n
unfolding at_least pick
second_least m n = go (leb m n) refl
  where
    go : (b : Bool) → leb m n ≡ b → n ≤ pick b n m
    go true e = omega arith
    go false e = let l : n < m = leb-false m n e in omega arith

one_of : (m n : ℕ) → (at_least m n ≡ m) ⊎ (at_least m n ≡ n)
unfolding at_least pick
one_of m n = go (leb m n)
  where
    go : (b : Bool) → (pick b n m ≡ m) ⊎ (pick b n m ≡ n)
    go true = inr refl
    go false = inl refl

-- ---- an event

bpdu_least : (time : ℕ) → least_stop ≤ bpdu_stop time
unfolding bpdu_stop
bpdu_least time = first_least least_stop _

twice_least : (time : ℕ) → least_stop ≤ twice_stop time
unfolding twice_stop
twice_least time = first_least least_stop _

least_stop_lem : (kind time : ℕ) → least_stop ≤ stop_of kind time
unfolding stop_of pick
least_stop_lem kind time = go (eqb kind native_frame) (eqb kind bridge_bpdu)
  where
    go : (a b : Bool) → least_stop ≤ pick a least_stop (pick b (bpdu_stop time) (twice_stop time))
    go true b = omega arith
    go false true = bpdu_least time
    go false false = twice_least time

-- more left is more left at every later reading
later_left : (cs : List ℕ) (reading a b : ℕ) → a ≤ b → (ticked_all cs (watch_of a reading)).left ≤ (ticked_all cs (watch_of b reading)).left
unfolding ticked_all ticked
later_left [] reading a b h = h
later_left (c ∷ cs) reading a b h = later_left cs c (a - passed reading c) (b - passed reading c) (omega arith)

module _ (clock kind time : ℕ) (w : Watch) where
  abbrev after : Watch
  after = prolonged (stop_of kind time) (ticked clock w)

  -- an event by whether its kind is known
  abbrev event_by : Bool → OnWatch (Outcome ℕ)
  event_by b = settled (λ n. on_watch (Err n) w) (check b SettingsBad (Ok (showing after)))

  pub record Event (b : Bool) (x : OnWatch (Outcome ℕ)) : Type 0 where
    pub left : (ticked clock w).left ≤ x.watch.left
    pub stop : (n : ℕ) → x.answer ≡ Ok n → stop_of kind time ≤ x.watch.left
    pub either : (n : ℕ) → x.answer ≡ Ok n → (x.watch.left ≡ (ticked clock w).left) ⊎ (x.watch.left ≡ stop_of kind time)
    pub later : (n : ℕ) (cs : List ℕ) → x.answer ≡ Ok n → (ticked_all cs (ticked clock w)).left ≤ (ticked_all cs x.watch).left
    pub same : (n : Refusal) → x.answer ≡ Err n → x.watch ≡ w
    pub known : (x.answer ≡ Err SettingsBad) ↔ (b ≡ false)

  event_cases : (b : Bool) → Event b (event_by b)
  unfolding settled check prolonged ticked
  event_cases true = record {
    left = first_least (ticked clock w).left (stop_of kind time);
    stop = λ n e. second_least (ticked clock w).left (stop_of kind time);
    either = λ n e. one_of (ticked clock w).left (stop_of kind time);
    later = λ n cs e. later_left cs clock (ticked clock w).left after.left (first_least (ticked clock w).left (stop_of kind time));
    same = λ n e. apart cc;
    known = (λ e. apart cc, λ e. apart cc);
  }
  event_cases false = record {
    left = omega arith;
    stop = λ n e. apart cc;
    either = λ n e. apart cc;
    later = λ n cs e. apart cc;
    same = λ n e. refl;
    known = (λ e. refl, λ e. refl);
  }

  pub event_is : Event (leb kind lldp_notice) (evented clock kind time w)
  unfolding evented
  event_is = event_cases (leb kind lldp_notice)

  pub event_known : ((evented clock kind time w).answer ≡ Err SettingsBad) ↔ (lldp_notice < kind)
  event_known = (λ e. leb-false kind lldp_notice (event_is.known.0 e), λ l. event_is.known.1 (lt-leb kind lldp_notice l))

pub stop_never_shortened : StopNeverShortened
stop_never_shortened = record {
  left = λ clock kind time w. (event_is clock kind time w).left;
  least = least_stop_lem;
  stop = λ clock kind time n w. (event_is clock kind time w).stop n;
  either = λ clock kind time n w. (event_is clock kind time w).either n;
  later = λ clock kind time n w cs. (event_is clock kind time w).later n cs;
}

-- ---- readings

left_over : (cs : List ℕ) (w : Watch) → (ticked_all cs w).left ≡ w.left - passed_over w.reading cs
unfolding ticked_all passed_over ticked
left_over [] w = omega arith
left_over (c ∷ cs) w =
    let rest : (ticked_all cs (ticked c w)).left ≡ w.left - passed w.reading c - passed_over c cs = left_over cs (ticked c w) in
    omega arith

-- no stop is no second left
none_left : (n p : ℕ) → (ltb 0 (n - p) ≡ false) ↔ (n ≤ p)
none_left n p = (λ e. let l : n - p ≤ 0 = ltb-false 0 (n - p) e in omega arith, λ l. le-ltb 0 (n - p) (omega arith))

-- a step of the clock is what passes
step_passes : (t d : ℕ) → d < gone_back → passed (t % 2 ^ 32) ((t + d) % 2 ^ 32) ≡ d
unfolding passed difference pick
step_passes t d h =
    let is : ((t + d) % 2 ^ 32 + 2 ^ 32 - t % 2 ^ 32) % 2 ^ 32 ≡ d = omega arith in
    rw (is, lt-ltb d gone_back h)

time_passes : (t : ℕ) (ds : List ℕ) → Short ds → passed_over (t % 2 ^ 32) (readings_from t ds) ≡ total ds
unfolding passed_over readings_from total
time_passes t [] h = refl
time_passes t (d ∷ ds) h = rw (step_passes t d h.0, time_passes (t + d) ds h.1)

pub stop_runs_out : StopRunsOut
unfolding stopped
stop_runs_out = record {
  left = left_over;
  over = λ cs w. rw (left_over cs w) (none_left w.left (passed_over w.reading cs));
  time = time_passes;
}

pub watch_cases : WatchCases
unfolding stop_of twice_stop bpdu_stop at_least pick ticked passed difference
watch_cases = record {
  hello_3 = refl;
  hello_6 = refl;
  bpdu_512 = refl;
  bpdu_641 = refl;
  bpdu_most = refl;
  lldp_most = refl;
  native = λ time. refl;
  wraps = refl;
  back = refl;
  half = refl;
  below_half = refl;
}
