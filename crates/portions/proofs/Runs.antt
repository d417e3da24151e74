-- Portions one after another: a run stands where the whole flush's loop would stand at its next slot.
-- Assumes nothing.
use Prim.Native.Nat.{ℕ, zero, suc, ◌+◌, ◌-◌, ◌*◌, ◌%◌, ◌<◌, ◌≤◌}
use mathlib.Core.Bool.{Bool, true}
use mathlib.Core.List.Memᴰ
use mathlib.Core.List.{List, [], ◌∷◌, Memᴰ}
use mathlib.Core.Path.{◌≡◌, refl, sym, ap, subst, ◌∙◌}
use native.Mathlib.Decide.{dec_lt}
use native.Mathlib.Nat.{div-add-mod, mod-lt, mul-le-mul_left}
use native.Mathlib.Omega.{arith}
use lib.ListN.{length, replicate}
use Rattle.table.specs.Slots.{slot_bytes, table_good, slots_of, on_slots, count_slots}
use Rattle.table.proofs.Slots.{length-on_slots}
use Rattle.flush.specs.Payload.{every_type, Payload, payload_of}
use Rattle.flush.specs.Flush.{slot_meant, cleared_slot, cleared_by}
use Rattle.flush.proofs.Flushing.{cleared_keeps}
use Rattle.portions.specs.Portion.{portion_steps, portion_by, Run, stands, portions_run, total}
use Rattle.portions.specs.Claims.{WholeFlush, PortionsWhole, Reaches, Positive, PortionsReach, calls, Ends, PortionsEnd}
use Rattle.table.proofs.Ranges.{on_join, count_join}
use Rattle.portions.proofs.Portions.{steps_k, steps_left, steps_within, past, none, ran, flush_ran}
use Rattle.std.specs.Prelude.{Ok}

good_same : (t u : List ℕ) → length u ≡ length t → table_good t ≡ true → table_good u ≡ true
unfolding table_good
good_same t u e good = rw e good

module _ (p : Payload) (ingress : ℕ) (l t : List ℕ) (good : table_good t ≡ true) (read : payload_of every_type l ≡ Ok p) where
  abbrev meant : List ℕ → Bool
  meant = slot_meant every_type p ingress

  abbrev clear : List ℕ → List ℕ
  clear = cleared_slot meant

  -- ---- one call more

  module _ (k : ℕ) (ks : List ℕ) (slot : ℕ) (u : List ℕ) (long : length u ≡ length t) where
    abbrev steps : ℕ
    steps = portion_steps slot k (slots_of t)

    abbrev further : Run
    further = portions_run ingress l ks (slot + steps) (on_slots clear slot steps u)

    run_on : 0 < k → slot < slots_of t → portions_run ingress l (k ∷ ks) slot u ≡ stands (count_slots meant slot steps u + further.cleared) further.next further.table
    unfolding portions_run portion_by
    run_on some inside =
        let n : slots_of u ≡ slots_of t = omega arith in
        rw (ran ingress l slot k u (good_same t u long good) some (omega arith) p read, n)

    run_none : k ≡ 0 → portions_run ingress l (k ∷ ks) slot u ≡ stands 0 slot u
    unfolding portions_run
    run_none e = rw (none ingress l slot k u (good_same t u long good) e)

    run_past : slots_of t ≤ slot → portions_run ingress l (k ∷ ks) slot u ≡ stands 0 slot u
    unfolding portions_run
    run_past h =
        let n : slots_of u ≡ slots_of t = omega arith in
        rw (past ingress l slot k u (good_same t u long good) (omega arith))

  -- ---- where a run stands

  record Stands (slot : ℕ) (r : Run) : Type 0 where
    within : r.next ≤ slots_of t
    table : r.table ≡ on_slots clear 0 r.next t
    count : count_slots meant 0 slot t + r.cleared ≡ count_slots meant 0 r.next t

  at_once : (slot : ℕ) (u : List ℕ) → slot ≤ slots_of t → u ≡ on_slots clear 0 slot t → Stands slot (stands 0 slot u)
  at_once slot u h e = record { within = h; table = e; count = omega arith }

  run-stands : (ks : List ℕ) (slot : ℕ) (u : List ℕ) → slot ≤ slots_of t → u ≡ on_slots clear 0 slot t → Stands slot (portions_run ingress l ks slot u)
  unfolding portions_run
  run-stands [] slot u h e = at_once slot u h e
  run-stands (k ∷ ks) slot u h e = go (dec_lt 0 k) (dec_lt slot (slots_of t)) (run-stands ks)
    where
      long : length u ≡ length t
      long = ap length e ∙ length-on_slots clear (cleared_keeps meant) t 0 slot (omega arith)

      go : Dec (0 < k) → Dec (slot < slots_of t)
          → ((s : ℕ) (w : List ℕ) → s ≤ slots_of t → w ≡ on_slots clear 0 s t → Stands s (portions_run ingress l ks s w))
          → Stands slot (portions_run ingress l (k ∷ ks) slot u)
      go (no a) b ih = subst (Stands slot) (sym (run_none k ks slot u long (omega arith))) (at_once slot u h e)
      go (yes a) (no b) ih = subst (Stands slot) (sym (run_past k ks slot u long (omega arith))) (at_once slot u h e)
      go (yes a) (yes b) ih =
          let m : ℕ = portion_steps slot k (slots_of t) in
          let room : slot + portion_steps slot k (slots_of t) ≤ slots_of t = steps_within slot k (slots_of t) h in
          let fits : slot_bytes * (slot + portion_steps slot k (slots_of t)) ≤ length t = omega arith in
          let w : List ℕ = on_slots clear slot m u in
          let r = ih (slot + m) w room (on_join clear (cleared_keeps meant) t slot u e m fits) in
          let c = count_join clear (cleared_keeps meant) t slot u e meant m fits in
          subst (Stands slot) (sym (run_on k ks slot u long a b)) (record { within = r.within; table = r.table; count = more _ _ _ _ _ c r.count })
        where
          more : (a b c d e : ℕ) → a + b ≡ d → d + c ≡ e → a + (b + c) ≡ e
          more a b c d e x y = omega arith

  whole : (ks : List ℕ) → (portions_run ingress l ks 0 t).next ≡ slots_of t → WholeFlush ingress l ks t
  unfolding on_slots count_slots cleared_by
  whole ks end =
      let s = run-stands ks 0 t (omega arith) refl in
      let c : 0 + (portions_run ingress l ks 0 t).cleared ≡ count_slots meant 0 (portions_run ingress l ks 0 t).next t = s.count in
      let d : (portions_run ingress l ks 0 t).cleared ≡ count_slots meant 0 (portions_run ingress l ks 0 t).next t = omega arith in
      let n : (portions_run ingress l ks 0 t).cleared ≡ count_slots meant 0 (slots_of t) t = d ∙ ap (λ (x : ℕ). count_slots meant 0 x t) end in
      record {
        table = rw (flush_ran p ingress l t good read) (s.table ∙ ap (λ (x : ℕ). on_slots clear 0 x t) end);
        count = rw (flush_ran p ingress l t good read) (ap Ok (sym n));
      }

  -- ---- how far a run comes

  pub run_far : (ks : List ℕ) → Positive ks → (slot : ℕ) (u : List ℕ) → slot ≤ slots_of t → length u ≡ length t
      → (slots_of t ≤ slot + total ks → (portions_run ingress l ks slot u).next ≡ slots_of t) × (slot + total ks ≤ slots_of t → (portions_run ingress l ks slot u).next ≡ slot + total ks)
  unfolding portions_run total
  run_far [] pos slot u h long = (λ g. omega arith, λ g. omega arith)
  run_far (k ∷ ks) pos slot u h long = go (dec_lt slot (slots_of t)) (run_far ks (λ j m. pos j (Memᴰ.tail m)))
    where
      some : 0 < k
      some = pos k (Memᴰ.head refl)

      go : Dec (slot < slots_of t)
          → ((s : ℕ) (w : List ℕ) → s ≤ slots_of t → length w ≡ length t
          → (slots_of t ≤ s + total ks → (portions_run ingress l ks s w).next ≡ slots_of t) × (s + total ks ≤ slots_of t → (portions_run ingress l ks s w).next ≡ s + total ks))
          → (slots_of t ≤ slot + (k + total ks) → (portions_run ingress l (k ∷ ks) slot u).next ≡ slots_of t) × (slot + (k + total ks) ≤ slots_of t → (portions_run ingress l (k ∷ ks) slot u).next ≡ slot + (k + total ks))
      go (no b) ih = rw (run_past k ks slot u long (omega arith)) (λ g. omega arith, λ g. omega arith)
      go (yes b) ih = step (dec_lt (slots_of t - slot) k)
        where
          room : slot + portion_steps slot k (slots_of t) ≤ slots_of t
          room = steps_within slot k (slots_of t) h

          kept : length (on_slots clear slot (portion_steps slot k (slots_of t)) u) ≡ length t
          kept = length-on_slots clear (cleared_keeps meant) u slot (portion_steps slot k (slots_of t)) (omega (arith, room)) ∙ long

          step : Dec (slots_of t - slot < k) → (slots_of t ≤ slot + (k + total ks) → (portions_run ingress l (k ∷ ks) slot u).next ≡ slots_of t) × (slot + (k + total ks) ≤ slots_of t → (portions_run ingress l (k ∷ ks) slot u).next ≡ slot + (k + total ks))
          step (yes q) =
              let r = ih (slot + portion_steps slot k (slots_of t)) (on_slots clear slot (portion_steps slot k (slots_of t)) u) room kept in
              let e = steps_left slot k (slots_of t) (omega arith) in rw (run_on k ks slot u long some b) (λ g. r.0 (omega (arith, room)), λ g. absurd (omega arith))
          step (no q) =
              let r = ih (slot + portion_steps slot k (slots_of t)) (on_slots clear slot (portion_steps slot k (slots_of t)) u) room kept in
              let e = steps_k slot k (slots_of t) (omega arith) in rw (run_on k ks slot u long some b) (λ g. r.0 (omega arith), λ g. r.1 (omega arith) ∙ omega arith)

  reaches : (ks : List ℕ) → Positive ks → Reaches ingress l ks t
  reaches ks pos =
      let r = run_far ks pos 0 t (omega arith) refl in
      record { end = λ g. r.0 (omega arith); short = λ g. r.1 (omega arith) ∙ omega arith }

  -- ---- one k

  module _ (k : ℕ) (some : 0 < k) where
    same_k : (c j : ℕ) → Memᴰ j (replicate c k) → 0 < j
    same_k zero j m = absurd (Memᴰ.not-nil m)
    same_k (suc c) j (Memᴰ.head e) = let q : j ≡ k = cc in omega arith
    same_k (suc c) j (Memᴰ.tail m) = same_k c j m

    total_same : (c : ℕ) → total (replicate c k) ≡ k * c
    unfolding total
    total_same zero = omega arith
    total_same (suc c) = let e = total_same c in omega arith

    ends : Ends ingress l k t
    ends = record {
      done =
          let d = div-add-mod (slots_of t + (k - 1)) k in
          let r : (slots_of t + (k - 1)) % k < k = mod-lt (slots_of t + (k - 1)) some in
          let e = total_same (calls (slots_of t) k) in
          (reaches (replicate (calls (slots_of t) k) k) (same_k (calls (slots_of t) k))).end (omega arith);
      not_before = λ c h.
          let d = div-add-mod (slots_of t + (k - 1)) k in
          let m : k * suc c ≤ k * calls (slots_of t) k = mul-le-mul_left k h in
          let e = total_same c in
          let s : k * suc c ≡ k * c + k = omega arith in
          let q = (reaches (replicate c k) (same_k c)).short (omega arith) in
          omega arith;
    }

pub portions_whole : PortionsWhole
portions_whole ingress l ks t p good read end = whole p ingress l t good read ks end

pub portions_reach : PortionsReach
portions_reach ingress l ks t p good read pos = reaches p ingress l t good read ks pos

pub portions_end : PortionsEnd
portions_end ingress l k t p good read some = ends p ingress l t good read k some
