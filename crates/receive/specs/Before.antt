-- Reading without Smart Endnodes, as it was before 2026-13; kept to compare (`SmartPort`).
-- Assumes nothing.
use Rattle.std.specs.Prelude.{ℕ, Bool, not, List, leb, eqb, length, Ok, Err}
use Rattle.numbers.specs.Tests.{pick, both}
use Rattle.numbers.specs.Result.{Outcome, check, and_then, settled}
use Rattle.numbers.specs.After.{OnBoth, on_both}
use Rattle.numbers.specs.Bytes.{num}
use Rattle.numbers.specs.Ranges.{individual, nickname_good}
use Rattle.table.specs.Slots.{table_good}
use Rattle.table.specs.Learning.{learnt}
use Rattle.frame.specs.Settings.{settings_good, default_life}
use Rattle.frame.specs.Front.{trill_group}
use Rattle.frame.specs.Header.{hop_count, egress_of, ingress_of}
use Rattle.frame.specs.Labels.{is_channel}
use Rattle.frame.specs.Fields.{Fields}
use Rattle.frame.specs.Formats.{parsed}
use Rattle.frame.specs.declared.Settings.{Settings}
use Rattle.port_map.specs.Maps.{map_good}
use Rattle.receive.specs.Deciding.{is_own, is_onward}
use Rattle.receive.specs.Delivering.{native_out}
use Rattle.receive.specs.Receive.{learned_entry, delivered_with, channel}
use Rattle.receive.specs.declared.ReadAnswer.{ReadAnswer}
use Rattle.receive.specs.declared.ReadAnswer.TheVariants.{Onward}
use Rattle.numbers.specs.declared.refusals.Refusal.TheVariants.{SettingsBad, TableLengthBad, HopsSpent, NicknameBad, SourceGroup, NotChannel, AreaShort, MapBad}

-- refusal 9: "a nickname outside 0001 to FFBF, or ingress nickname our own"
unfoldable pub nicknames_good_before : Settings → List ℕ → Bool
nicknames_good_before s h =
    both (nickname_good (egress_of h))
    (both (nickname_good (ingress_of h)) (not (is_own s (ingress_of h))))

-- every delivered frame teaches its source
unfoldable pub delivery_before : Outcome (List ℕ) → Settings → Fields → List ℕ → List ℕ → Outcome (OnBoth (Outcome ReadAnswer))
delivery_before native s p t o =
    check (not (trill_group (num p.dst))) NotChannel
    (and_then native λ b.
    check (leb (length b) (length o)) AreaShort
    (Ok (delivered_with p b o (learnt (learned_entry default_life s p) t))))

unfoldable pub acted_before : List ℕ → Settings → Fields → List ℕ → List ℕ → Outcome (OnBoth (Outcome ReadAnswer))
acted_before m s p t o =
    check (not (eqb (hop_count p.header) 0)) HopsSpent
    (check (nicknames_good_before s p.header) NicknameBad
    (check (individual (num p.src)) SourceGroup
    (pick (is_onward s p.header)
    (Ok (on_both (Ok Onward) t o))
    (pick (is_channel p.content)
    (channel s p t o)
    (delivery_before (native_out m p) s p t o)))))

unfoldable pub received_before : Settings → List ℕ → List ℕ → List ℕ → List ℕ → OnBoth (Outcome ReadAnswer)
received_before s m f t o =
    settled (λ n. on_both (Err n) t o)
    (check (settings_good s) SettingsBad
    (check (table_good t) TableLengthBad
    (check (map_good m) MapBad
    (and_then (parsed s f) λ p.
    acted_before m s p t o))))
