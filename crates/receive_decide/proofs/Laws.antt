-- Each outcome of the decision, from facts as the code finds them.
-- Assumes nothing.
use mathlib.Core.Bool.{Bool, true, false}
use mathlib.Core.Path.{◌≡◌}
use borrow.Author.Tests.{eq-eqb, ne_eqb}
use Rattle.numbers.specs.Tests.{pick}
use Rattle.numbers.specs.Result.{Outcome, check}
use Rattle.numbers.specs.Ranges.{individual}
use Rattle.frame.specs.Labels.{is_channel}
use Rattle.frame.specs.Fields.{Fields}
use Rattle.frame.specs.declared.Settings.{Settings}
use Rattle.receive.specs.Deciding.{ingress_allowed, nicknames_good, is_onward}
use Rattle.receive_decide.specs.Meaning.{ValuesOf, nicknames_of, onward_of, deciding}
use Rattle.receive_decide.specs.declared.FieldValues.{FieldValues}
use Rattle.std.specs.Prelude.{Err}
use Rattle.numbers.specs.declared.refusals.Refusal.TheVariants.{HopsSpent, NicknameBad, SourceGroup}

module _ (s : Settings) (p : Fields) (v : FieldValues) (w : ValuesOf p v) where
  nicknames_same : nicknames_good s p.header ≡ nicknames_of s.smart s.nickname v.egress v.ingress
  unfolding nicknames_good ingress_allowed nicknames_of
  nicknames_same = rw (w.egress, w.ingress)

  onward_same : is_onward s p.header ≡ onward_of s.nickname v.multicast v.egress
  unfolding is_onward onward_of
  onward_same = rw (w.multicast, w.egress)

  module _ {A : Type 0} (a b c : Outcome A) where
    pub hops_out : v.hops ≡ 0 → Err HopsSpent ≡ deciding s p a b c
    unfolding deciding check
    hops_out h = rw (← w.hops, eq-eqb v.hops 0 h)

    module _ (some : v.hops ≡ 0 → ⊥) (n : Bool) (en : n ≡ nicknames_of s.smart s.nickname v.egress v.ingress) where
      pub nicknames_out : n ≡ false → Err NicknameBad ≡ deciding s p a b c
      unfolding deciding check
      nicknames_out h = rw (← w.hops, ne_eqb v.hops 0 some, nicknames_same, ← en, h)

      module _ (known : n ≡ true) (i : Bool) (ei : i ≡ individual v.src) where
        pub source_out : i ≡ false → Err SourceGroup ≡ deciding s p a b c
        unfolding deciding check
        source_out h = rw (← w.hops, ne_eqb v.hops 0 some, nicknames_same, ← en, known, ← w.src, ← ei, h)

        module _ (single : i ≡ true) (o : Bool) (eo : o ≡ onward_of s.nickname v.multicast v.egress) where
          pub goes_onward : o ≡ true → a ≡ deciding s p a b c
          unfolding deciding check pick
          goes_onward h = rw (← w.hops, ne_eqb v.hops 0 some, nicknames_same, ← en, known, ← w.src, ← ei, single, onward_same, ← eo, h)

          module _ (stays : o ≡ false) (k : Bool) (ek : k ≡ is_channel p.content) where
            pub is_channel_lem : k ≡ true → b ≡ deciding s p a b c
            unfolding deciding check pick
            is_channel_lem h = rw (← w.hops, ne_eqb v.hops 0 some, nicknames_same, ← en, known, ← w.src, ← ei, single, onward_same, ← eo, stays, ← ek, h)

            pub is_native : k ≡ false → c ≡ deciding s p a b c
            unfolding deciding check pick
            is_native h = rw (← w.hops, ne_eqb v.hops 0 some, nicknames_same, ← en, known, ← w.src, ← ei, single, onward_same, ← eo, stays, ← ek, h)
