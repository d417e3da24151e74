-- Each outcome of a channel frame.
-- Assumes nothing.
use Prim.Native.Nat.{ℕ, ◌<◌, ◌≤◌}
use mathlib.Core.Bool.{Bool, true, false}
use mathlib.Core.List.{List}
use mathlib.Core.Path.{◌≡◌, refl}
use native.Mathlib.Omega.{arith}
use lib.ListN.{length}
use borrow.Author.Tests.{le-leb, lt-leb, eq-eqb, ne_eqb}
use Rattle.numbers.specs.Tests.{pick}
use Rattle.numbers.specs.Result.{check, and_then, settled, Outcome}
use Rattle.numbers.specs.After.{OnBoth, on_both, on_table}
use Rattle.table.specs.Slots.{table_good, most_slots}
use Rattle.flush.specs.Payload.{every_type}
use Rattle.flush.specs.Flush.{clearing}
use Rattle.frame.specs.Fields.{Fields}
use Rattle.frame.specs.declared.Settings.{Settings}
use Rattle.receive.specs.Deciding.{channel_bytes, channel_protocol, channel_payload, flush_protocol, channel_good}
use Rattle.receive.specs.Receive.{channel}
use Rattle.receive.specs.declared.ReadAnswer.{ReadAnswer}
use Rattle.receive.specs.declared.ReadAnswer.TheVariants as answer
use Rattle.receive_decide.specs.Meaning.{ValuesOf}
use Rattle.receive_decide.specs.declared.FieldValues.{FieldValues}
use Rattle.flush_call.specs.Clearing.{cleared_on}
use Rattle.flush_call.proofs.Calls.{ran_refused, ran_count, clearing_few}
use Rattle.table.proofs.Slots.{good_slots}
use Rattle.receive_channel.specs.Meaning.{channel_of}
use Rattle.std.specs.Prelude.{Ok, Err}
use Rattle.numbers.specs.declared.refusals.Refusal.TheVariants.{CutShort, ChannelBad}
use Rattle.numbers.specs.declared.refusals.Refusal.{Refusal}

module _ (s : Settings) (p : Fields) (v : FieldValues) (w : ValuesOf p v) (t o : List ℕ) where
  abbrev handled : OnBoth (Outcome ReadAnswer)
  handled = settled (λ n. on_both (Err n) t o) (channel s p t o)

  module _ (c : List ℕ) (ec : c ≡ p.content) where
    pub cut_out : length c < channel_bytes → on_both (Err CutShort) t o ≡ handled
    unfolding channel settled check
    cut_out h = rw (← ec, lt-leb channel_bytes (length c) h)

    module _ (long : channel_bytes ≤ length c) (g : Bool) (eg : g ≡ channel_of s.inner c v.dst) where
      good_same : channel_good s p ≡ g
      unfolding channel_good channel_of
      good_same = rw (eg, ← ec, w.dst)

      pub bad_out : g ≡ false → on_both (Err ChannelBad) t o ≡ handled
      unfolding channel settled check
      bad_out h = rw (good_same, ← ec, le-leb channel_bytes (length c) long, h)

      module _ (ok : g ≡ true) (k : ℕ) (ek : k ≡ channel_protocol c) where
        pub other_out : (k ≡ flush_protocol → ⊥) → on_both (Ok answer.OtherChannel) t o ≡ handled
        unfolding channel settled check pick
        other_out h = rw (good_same, ← ec, le-leb channel_bytes (length c) long, ok, ← ek, ne_eqb k flush_protocol h)

        module _ (is : k ≡ flush_protocol) (x : List ℕ) (ex : x ≡ channel_payload c) (u : List ℕ) where
          pub corrupt_out : (n : Refusal) → on_table (Err n) u ≡ cleared_on t (clearing every_type v.ingress x t) → on_both (Err n) u o ≡ handled
          unfolding channel settled check pick and_then
          corrupt_out n ran =
              let a = ran_refused t u (Err n) (clearing every_type v.ingress x t) ran n refl in
              rw (good_same, ← ec, le-leb channel_bytes (length c) long, ok, ← ek, eq-eqb k flush_protocol is, ← w.ingress, ← ex, a.0, a.1)

          pub flushed_out : (n : ℕ) → on_table (Ok n) u ≡ cleared_on t (clearing every_type v.ingress x t) → on_both (Ok (answer.Flushed n)) u o ≡ handled
          unfolding channel settled check pick and_then
          flushed_out n ran =
              rw (good_same, ← ec, le-leb channel_bytes (length c) long, ok, ← ek, eq-eqb k flush_protocol is, ← w.ingress, ← ex, ran_count t u (Ok n) (clearing every_type v.ingress x t) ran n refl)

-- the count of a good table
pub few_cleared : (ingress : ℕ) (x t u : List ℕ) → table_good t ≡ true → (n : ℕ) → on_table (Ok n) u ≡ cleared_on t (clearing every_type ingress x t) → n ≤ most_slots
few_cleared ingress x t u good n ran =
    let few = clearing_few ingress x t (on_table n u) (ran_count t u (Ok n) (clearing every_type ingress x t) ran n refl) in
    let slots = good_slots t good in
    omega arith
