-- The decision on the fields of a frame, with what follows it left open; and the values that the code reads.
-- Assumes nothing.
use Rattle.std.specs.Prelude.{ℕ, ◌^◌, ◌<◌, Bool, not, ◌≡◌, eqb, Ok, Err}
use Rattle.numbers.specs.Tests.{pick, both, either}
use Rattle.numbers.specs.Result.{Outcome, check}
use Rattle.numbers.specs.Bytes.{num}
use Rattle.numbers.specs.Ranges.{individual, nickname_good}
use Rattle.frame.specs.Header.{multicast_of, hop_count, egress_of, ingress_of}
use Rattle.frame.specs.Labels.{is_channel}
use Rattle.frame.specs.Fields.{Fields}
use Rattle.frame.specs.declared.Settings.{Settings}
use Rattle.receive.specs.Deciding.{nicknames_good, is_onward}
use Rattle.receive_decide.specs.declared.Step.{Step}
use Rattle.receive_decide.specs.declared.Step.TheVariants as step
use Rattle.receive_decide.specs.declared.FieldValues.{FieldValues}
use Rattle.numbers.specs.declared.refusals.Refusal.TheVariants.{HopsSpent, NicknameBad, SourceGroup}

-- v are the values of a frame's fields
pub record ValuesOf (p : Fields) (v : FieldValues) : Type 0 where
  pub multicast : v.multicast ≡ multicast_of p.header
  pub hops : v.hops ≡ hop_count p.header
  pub egress : v.egress ≡ egress_of p.header
  pub ingress : v.ingress ≡ ingress_of p.header
  pub dst : v.dst ≡ num p.dst
  pub src : v.src ≡ num p.src
  pub ingress_fits : v.ingress < 2 ^ 16
  pub src_fits : v.src < 2 ^ 48

-- `nicknames_good` and `is_onward` of the numbers themselves
unfoldable pub nicknames_of : ℕ → ℕ → ℕ → ℕ → Bool
nicknames_of smart own egress ingress = both (nickname_good egress) (both (nickname_good ingress) (either (eqb smart 1) (not (eqb ingress own))))

unfoldable pub onward_of : ℕ → ℕ → ℕ → Bool
onward_of own multicast egress = both (eqb multicast 0) (not (eqb egress own))

-- 8, 9, 11; onward; a channel frame or another
unfoldable pub deciding : {A : Type 0} → Settings → Fields → Outcome A → Outcome A → Outcome A → Outcome A
deciding s p onward channel native =
    check (not (eqb (hop_count p.header) 0)) HopsSpent
    (check (nicknames_good s p.header) NicknameBad
    (check (individual (num p.src)) SourceGroup
    (pick (is_onward s p.header)
    onward
    (pick (is_channel p.content) channel native))))

abbrev pub step_as : {A : Type 0} → Outcome Step → Outcome A → Outcome A → Outcome A → Outcome A
step_as (Err n) onward channel native = Err n
step_as (Ok step.Onward) onward channel native = onward
step_as (Ok step.Channel) onward channel native = channel
step_as (Ok step.Native) onward channel native = native
