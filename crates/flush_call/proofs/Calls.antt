-- Laws of the calls: refused, or cleared; a good table has few slots.
-- Assumes nothing.
use Prim.Native.Nat.{ℕ, ◌+◌, ◌-◌, ◌*◌, ◌≤◌}
use mathlib.Core.Bool.{Bool, true, false}
use mathlib.Core.List.{List}
use mathlib.Core.Path.{◌≡◌, sym, ap, ◌∙◌}
use native.Mathlib.Nat.{add-sub_cancel_left}
use native.Mathlib.Omega.{arith}
use lib.Dec.{leb}
use lib.ListN.{length, take, drop}
use borrow.Author.Tests.{leb-true}
use Rattle.numbers.specs.Result.{Outcome, check, and_then, settled}
use Rattle.numbers.specs.After.{OnTable, on_table, table_as}
use Rattle.numbers.proofs.Answers.{refused_got, got_got, check_got, then_got}
use Rattle.numbers.proofs.Lists.{rest_is}
use Rattle.table.specs.Slots.{most_slots, table_good, slots_of, count_slots}
use Rattle.table.proofs.Slots.{count_few, good_slots}
use Rattle.flush.specs.Payload.{Types, every_type, nick_bytes, block_count, behind, block_bytes, pieces_of, made, payload_of}
use Rattle.flush.specs.Flush.{slot_meant, cleared_by, clearing, flushed}
use Rattle.flush_payload.specs.Judging.{Noted, JudgedPayload}
use Rattle.flush_payload.specs.declared.Kinds.{Kinds}
use Rattle.flush_marks.specs.Marks.{Chosen, cleared_marks, cleared_in, swept_in}
use Rattle.flush_marks.specs.Filters.{Within}
use Rattle.flush_marks.specs.declared.Sweep.{Sweep}
use Rattle.flush_marks.proofs.Clearing.{chosen_cleared}
use Rattle.flush_call.specs.Clearing.{payload_from, sweeping_in, cleared_on}
use Rattle.std.specs.Prelude.{Ok, Err}
use Rattle.numbers.specs.declared.refusals.Refusal.TheVariants.{TableLengthBad}
use Rattle.numbers.specs.declared.refusals.Refusal.{Refusal}

-- ---- the marked slots cleared

pub range_cleared : (meant : List ℕ → Bool) (from count : ℕ) (t m : List ℕ) → Within from count t → Chosen meant from count t m → (n : ℕ) (u : List ℕ) → on_table n u ≡ cleared_marks m t → on_table n u ≡ cleared_in meant from count t
range_cleared meant from count t m within chosen n u e = e ∙ chosen_cleared meant from count t m within.room chosen

pub range_swept : (meant : List ℕ → Bool) (from count : ℕ) (t m : List ℕ) → Within from count t → (s : ℕ) → (s ≡ count) × Chosen meant from count t m → (n : ℕ) (u : List ℕ) → on_table n u ≡ cleared_marks m t → on_table (record { cleared = n; examined = s }) u ≡ swept_in meant from count t
unfolding swept_in
range_swept meant from count t m within s marked n u e = rw (← range_cleared meant from count t m within marked.1 n u e, marked.0)

pub whole_within : (t : List ℕ) → slots_of t ≤ most_slots → Within 0 (slots_of t) t
whole_within t few = record { few = few; room = omega arith }

-- ---- judged, and cleared

noted_there : {types : Types} (n m : ℕ) (r s : List ℕ) (f : Kinds) → n ≡ m → r ≡ s → Noted types m (pieces_of m s) f → Noted types n (pieces_of n r) f
noted_there n m r s f e g x = rw (e, g) x

module _ {types : Types} (l : List ℕ) (j : Outcome Kinds) (judged : JudgedPayload types l j) where
  module _ (f : Kinds) (good : j ≡ Ok f) where
    counts : (2 + nick_bytes l ≤ length l) × (block_bytes * block_count l ≤ length (behind l))
    unfolding payload_of
    counts =
        let a = check_got (leb 1 (length l)) _ _ (made l) (judged.good f good) in
        let b = check_got (leb (1 + nick_bytes l) (length l)) _ _ (made l) a.1 in
        let c = check_got (leb (2 + nick_bytes l) (length l)) _ _ (made l) b.1 in
        let d = check_got (leb (block_bytes * block_count l) (length (behind l))) _ _ (made l) c.1 in
        (leb-true _ _ c.0, leb-true _ _ d.0)

    pub good_front : 2 + nick_bytes l ≤ length l
    good_front = counts.0

    pub good_blocks : (k : ℕ) → k ≡ nick_bytes l → block_bytes * f.blocks ≤ length (take (length l - (2 + k)) (drop (2 + k) l))
    good_blocks k e =
        let b = counts.1 in
        rw (rest_is (2 + k) l, e, (judged.noted f good).blocks) b

    pub good_kinds : (k : ℕ) → k ≡ nick_bytes l → Noted types f.blocks (pieces_of f.blocks (take (length l - (2 + k)) (drop (2 + k) l))) f
    good_kinds k e =
        let n = judged.noted f good in
        noted_there f.blocks (block_count l) _ (behind l) f n.blocks (rest_is (2 + k) l ∙ rw e) n

    module _ (ingress from count : ℕ) (t : List ℕ) where
      pub meant_cleared : (k : ℕ) → k ≡ nick_bytes l → (s : Sweep) (u : List ℕ)
          → on_table s u ≡ swept_in (slot_meant types (payload_from (take (1 + k - 1) (drop 1 l)) f.blocks (take (length l - (2 + k)) (drop (2 + k) l))) ingress) from count t
          → on_table (Ok s) u ≡ cleared_on t (sweeping_in types ingress l from count t)
      unfolding sweeping_in cleared_on swept_in and_then
      meant_cleared k e s u ran =
          let same : on_table s u ≡ swept_in (slot_meant types (made l) ingress) from count t = rw (add-sub_cancel_left 1 k, rest_is (2 + k) l, e, (judged.noted f good).blocks) at ran in
          rw (judged.good f good) (ap (table_as Ok) same)

  pub meant_refused : (r : Refusal) → j ≡ Err r → (ingress from count : ℕ) (t : List ℕ) → on_table (Err r) t ≡ cleared_on t (sweeping_in types ingress l from count t)
  unfolding sweeping_in cleared_on and_then
  meant_refused r h ingress from count t = rw (judged.bad r h)

-- ---- what an answer says of the definition

module _ {A : Type 0} (t u : List ℕ) (r : Outcome A) where
  answer_is : (a : OnTable (Outcome A)) → on_table r u ≡ a → (r ≡ a.answer) × (u ≡ a.table)
  answer_is a e = (ap (λ (x : OnTable (Outcome A)). x.answer) e, ap (λ (x : OnTable (Outcome A)). x.table) e)

  pub ran_refused : (x : Outcome (OnTable A)) → on_table r u ≡ cleared_on t x → (n : Refusal) → r ≡ Err n → (x ≡ Err n) × (u ≡ t)
  unfolding cleared_on
  ran_refused (Err m) ran n e =
      let a = answer_is (on_table (Err m) t) ran in
      let same : m ≡ n = cc a.0 in
      (ap Err same, a.1)
  ran_refused (Ok c) ran n e = let z : ◌≡◌ {A = ℕ} 0 1 = cc (answer_is _ ran).0 in absurd (omega arith)

  pub ran_count : (x : Outcome (OnTable A)) → on_table r u ≡ cleared_on t x → (n : A) → r ≡ Ok n → x ≡ Ok (on_table n u)
  unfolding cleared_on
  ran_count (Err m) ran n e = let z : ◌≡◌ {A = ℕ} 0 1 = cc (answer_is _ ran).0 in absurd (omega arith)
  ran_count (Ok c) ran n e =
      let a = answer_is (on_table (Ok c.answer) c.table) ran in
      let same : n ≡ c.answer = cc a.0 in
      rw (same, a.1)

-- only the first step is refused there
pub read_refused : {A B : Type 0} (x : Outcome A) (f : A → B) (n : Refusal) → and_then x (λ a. Ok (f a)) ≡ Err n → x ≡ Err n
unfolding and_then
read_refused (Err q) f n e = let same : q ≡ n = cc in ap Err same
read_refused (Ok a) f n e = refused_got n (f a) (sym e)

-- all slots in one range, by the same answer without the number examined
module _ (ingress : ℕ) (l t u : List ℕ) (r : Outcome Sweep) (ran : on_table r u ≡ cleared_on t (sweeping_in every_type ingress l 0 (slots_of t) t)) where
  pub whole_refused : (n : Refusal) → r ≡ Err n → on_table (Err n) u ≡ cleared_on t (clearing every_type ingress l t)
  unfolding sweeping_in clearing cleared_on and_then
  whole_refused n e =
      let (bad, same) = ran_refused t u r (sweeping_in every_type ingress l 0 (slots_of t) t) ran n e in
      rw (read_refused _ _ n bad, same)

  pub whole_done : (s : Sweep) → r ≡ Ok s → on_table (Ok s.cleared) u ≡ cleared_on t (clearing every_type ingress l t)
  unfolding sweeping_in clearing cleared_on and_then swept_in cleared_in cleared_by
  whole_done s e =
      let (p, read, c) = then_got _ _ _ (ran_count t u r (sweeping_in every_type ingress l 0 (slots_of t) t) ran s e) in
      let swept : on_table s u ≡ swept_in (slot_meant every_type p ingress) 0 (slots_of t) t = sym (got_got _ _ c) in
      let good : payload_of every_type l ≡ Ok p = read in
      rw good (ap (λ (x : OnTable Sweep). on_table (Ok x.answer.cleared) x.table) swept)

-- ---- the count

-- no more are cleared than there are slots
pub clearing_few : (ingress : ℕ) (l t : List ℕ) (c : OnTable ℕ) → clearing every_type ingress l t ≡ Ok c → c.answer ≤ slots_of t
unfolding clearing cleared_by
clearing_few ingress l t c h =
    let (p, q, e) = then_got _ _ _ h in
    let same : count_slots (slot_meant every_type p ingress) 0 (slots_of t) t ≡ c.answer = ap (λ (x : OnTable ℕ). x.answer) (got_got _ _ e) in
    let few = count_few (slot_meant every_type p ingress) t 0 (slots_of t) in
    omega arith

pub flush_slots : (t : List ℕ) (g : Bool) → g ≡ table_good t → g ≡ true → slots_of t ≤ most_slots
flush_slots t g good ok = good_slots t (sym good ∙ ok)

-- ---- the flush call

module _ (ingress : ℕ) (l t : List ℕ) (g : Bool) (good : g ≡ table_good t) where
  pub flush_refused : g ≡ false → on_table (Err TableLengthBad) t ≡ flushed ingress l t
  unfolding flushed settled check
  flush_refused h = rw (← good, h)

  module _ (ok : g ≡ true) (r : Outcome ℕ) (u : List ℕ) (ran : on_table r u ≡ cleared_on t (clearing every_type ingress l t)) where
    pub flush_corrupt : (n : Refusal) → r ≡ Err n → on_table (Err n) u ≡ flushed ingress l t
    unfolding flushed settled check and_then
    flush_corrupt n e =
        let a = ran_refused t u r (clearing every_type ingress l t) ran n e in
        rw (← good, ok, a.0, a.1)

    module _ (n : ℕ) (e : r ≡ Ok n) where
      pub flush_cleared : on_table (Ok n) u ≡ flushed ingress l t
      unfolding flushed settled check and_then
      flush_cleared = rw (← good, ok, ran_count t u r (clearing every_type ingress l t) ran n e)

      pub count_fits : n ≤ most_slots
      count_fits =
          let few = clearing_few ingress l t (on_table n u) (ran_count t u r (clearing every_type ingress l t) ran n e) in
          let slots = good_slots t (sym good ∙ ok) in
          omega arith
