-- Each outcome of reading.
-- Assumes nothing.
use Prim.Native.Nat.{ℕ, ◌+◌, ◌*◌, ◌/◌}
use mathlib.Core.Bool.{Bool, true, false}
use mathlib.Core.List.{List, []}
use mathlib.Core.Path.{◌≡◌, refl, sym, ap, ◌∙◌}
use lib.ListN.{length}
use borrow.Author.Tests.{eq-eqb, ne_eqb}
use Rattle.numbers.specs.Tests.{pick, either}
use Rattle.numbers.specs.Result.{Outcome, check, and_then, settled}
use Rattle.numbers.specs.After.{OnBoth, on_both}
use Rattle.table.specs.Slots.{table_good}
use Rattle.frame.specs.Fields.{Fields}
use Rattle.frame.specs.Formats.{parsed}
use Rattle.frame.specs.Settings.{settings_good, default_life}
use Rattle.frame.specs.declared.Settings.{Settings}
use Rattle.port_map.specs.Maps.{pairs_in, map_good, vlan_for}
use Rattle.port_map.specs.declared.PortVlan.{PortVlan}
use Rattle.port_map.specs.declared.CampusLabel.{CampusLabel}
use Rattle.port_map_search.specs.Meaning.{vlan_as}
use Rattle.receive.specs.Delivering.{tag_word, tagged_bytes, stays, native_out}
use Rattle.receive.specs.Receive.{channel, delivery, acted, reading, received_with, port_received, received}
use Rattle.receive.proofs.NoMap.{tag_stays}
use Rattle.receive_deliver.specs.Meaning.{Asks, native_as}
use Rattle.receive_deliver.specs.declared.Tag.{Tag}
use Rattle.receive_deliver.specs.declared.Tag.TheVariants as tag
use Rattle.receive_deliver.specs.declared.Wanted.{Wanted}
use Rattle.receive_deliver.specs.declared.Wanted.TheVariants as wanted
use Rattle.receive.specs.declared.ReadAnswer.{ReadAnswer}
use Rattle.receive.specs.declared.ReadAnswer.TheVariants as answer
use Rattle.frame_parse.specs.Meaning.{fields_in, Reads}
use Rattle.frame_parse.specs.declared.Parts.{Parts}
use Rattle.receive_decide.specs.Meaning.{deciding, step_as}
use Rattle.receive_decide.specs.declared.Step.{Step}
use Rattle.receive_decide.specs.declared.Step.TheVariants as step
use Rattle.std.specs.Prelude.{Option, Some, None, Ok, Err}
use Rattle.numbers.specs.declared.refusals.Refusal.TheVariants.{SettingsBad, TableLengthBad, MapBad}
use Rattle.numbers.specs.declared.refusals.Refusal.{Refusal}

-- ---- the outcomes on the fields

module _ (m : List ℕ) (s : Settings) (p : Fields) (t o : List ℕ) where
  abbrev left : Outcome (OnBoth (Outcome ReadAnswer)) → OnBoth (Outcome ReadAnswer)
  left r = settled (λ n. on_both (Err n) t o) r

  acted_is : acted m default_life s p t o ≡ deciding s p (Ok (on_both (Ok answer.Onward) t o)) (channel s p t o) (delivery (native_out m p) default_life s p t o)
  unfolding acted deciding
  acted_is = refl

  module _ (k : Outcome Step) (decided : (a b c : Outcome (OnBoth (Outcome ReadAnswer))) → step_as k a b c ≡ deciding s p a b c) where
    act_is : left (step_as k (Ok (on_both (Ok answer.Onward) t o)) (channel s p t o) (delivery (native_out m p) default_life s p t o)) ≡ left (acted m default_life s p t o)
    act_is = ap left (decided _ _ _ ∙ sym acted_is)

  pub act_refused : (n : Refusal) → ((a b c : Outcome (OnBoth (Outcome ReadAnswer))) → step_as (Err n) a b c ≡ deciding s p a b c) → on_both (Err n) t o ≡ left (acted m default_life s p t o)
  unfolding settled
  act_refused n decided = act_is (Err n) decided

  module _ (k : Step) (decided : (a b c : Outcome (OnBoth (Outcome ReadAnswer))) → step_as (Ok k) a b c ≡ deciding s p a b c) where
    pub act_onward : k ≡ step.Onward → on_both (Ok answer.Onward) t o ≡ left (acted m default_life s p t o)
    unfolding settled
    act_onward e = rw e at (act_is (Ok k) decided)

    pub act_channel : k ≡ step.Channel → (r : OnBoth (Outcome ReadAnswer)) → r ≡ left (channel s p t o) → r ≡ left (acted m default_life s p t o)
    act_channel e r h = h ∙ (rw e at (act_is (Ok k) decided))

    pub act_native : k ≡ step.Native → (g : Tag) → native_as g p ≡ native_out m p
        → (r : OnBoth (Outcome ReadAnswer)) → r ≡ left (delivery (native_as g p) default_life s p t o) → r ≡ left (acted m default_life s p t o)
    act_native e g eg r h = h ∙ rw eg (rw e at (act_is (Ok k) decided))

-- ---- the call

-- a test that did not fail holds
pub holds : (g b : Bool) → g ≡ b → g ≡ true → b ≡ true
holds g b e h = sym e ∙ h

module _ (s : Settings) (m f t o : List ℕ) (g : Bool) (eg : g ≡ settings_good s) where
  pub settings_out : g ≡ false → on_both (Err SettingsBad) t o ≡ port_received s m f t o
  unfolding port_received received_with reading settled check
  settings_out h = rw (← eg, h)

  module _ (set : g ≡ true) (b : Bool) (eb : b ≡ table_good t) where
    pub table_out : b ≡ false → on_both (Err TableLengthBad) t o ≡ port_received s m f t o
    unfolding port_received received_with reading settled check
    table_out h = rw (← eg, set, ← eb, h)

    module _ (tab : b ≡ true) (k : Bool) (ek : k ≡ map_good m) where
      pub map_out : k ≡ false → on_both (Err MapBad) t o ≡ port_received s m f t o
      unfolding port_received received_with reading settled check
      map_out h = rw (← eg, set, ← eb, tab, ← ek, h)

      module _ (mapped : k ≡ true) where
        pub parse_out : (n : Refusal) → Reads f (parsed s f) (Err n) → on_both (Err n) t o ≡ port_received s m f t o
        unfolding port_received received_with reading settled check and_then
        parse_out n r = rw (← eg, set, ← eb, tab, ← ek, mapped, ← r.fields)

        module _ (p : Parts) (r : Reads f (parsed s f) (Ok p)) where
          is_parsed : parsed s f ≡ Ok (fields_in f p)
          is_parsed = sym r.fields

          pub acted_out : (x : OnBoth (Outcome ReadAnswer)) → x ≡ left m s (fields_in f p) t o (acted m default_life s (fields_in f p) t o) → x ≡ port_received s m f t o
          unfolding port_received received_with reading check and_then
          acted_out x h = h ∙ rw (← eg, set, ← eb, tab, ← ek, mapped, is_parsed)

-- without a map
pub none_out : (s : Settings) (f t o : List ℕ) (x : OnBoth (Outcome ReadAnswer)) → x ≡ port_received s [] f t o → x ≡ received s f t o
unfolding received
none_out s f t o x h = h

-- ---- the tag

module _ (m : List ℕ) where
  pub tag_empty : length m ≡ 0 → (p : Fields) → native_as tag.Untagged p ≡ native_out m p
  unfolding native_out stays either pick
  tag_empty h p = rw (eq-eqb (length m) 0 h)

  pub tag_plain : (w : Wanted) → w ≡ wanted.Nothing → (p : Fields) → Asks w p → native_as tag.Untagged p ≡ native_out m p
  tag_plain w e p a = sym (tag_stays m p (rw e at a))

  module _ (some : length m ≡ 0 → ⊥) (q : Wanted) (l : CampusLabel) (w : ℕ) (is : q ≡ wanted.Vlan l w) (r : Option PortVlan) (er : vlan_as r ≡ vlan_for (pairs_in m) l) where
    asked : (p : Fields) → Asks q p → Asks (wanted.Vlan l w) p
    asked p a = rw is at a

    searched : (p : Fields) → Asks (wanted.Vlan l w) p → native_out m p ≡ and_then (vlan_as r) (λ v. Ok (tagged_bytes p (tag_word p.label v)))
    unfolding native_out stays either pick
    searched p a = rw (ne_eqb (length m) 0 some, a.0, ← a.1.0, ← er)

    pub tag_missing : r ≡ None → (p : Fields) → Asks q p → native_as tag.Missing p ≡ native_out m p
    unfolding and_then
    tag_missing h p a = sym (rw h at (searched p (asked p a)))

    pub tag_found : (v : PortVlan) → r ≡ Some v → (p : Fields) → Asks q p → native_as (tag.Number (w / 0x2000 * 0x2000 + v.0)) p ≡ native_out m p
    unfolding and_then tag_word
    tag_found v h p a = let k = asked p a in sym (rw (h, ← k.1.1) at (searched p k))
