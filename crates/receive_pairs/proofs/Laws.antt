-- Reading sees of a map whether it is good, whether it is none, and the VLAN of the label that the frame asks for.
-- Assumes nothing.
use Prim.Native.Nat.{ℕ}
use mathlib.Core.Bool.{Bool, true, false}
use mathlib.Core.List.{List}
use mathlib.Core.Path.{◌≡◌, refl, sym, ap, ◌∙◌}
use lib.Dec.{eqb}
use lib.ListN.{length}
use Rattle.numbers.specs.Result.{Outcome, check, and_then}
use Rattle.numbers.specs.After.{OnBoth}
use Rattle.numbers.proofs.Answers.{refused_got, got_got}
use Rattle.numbers.proofs.Truth.{false_true}
use Rattle.frame.specs.Fields.{Fields}
use Rattle.frame.specs.Formats.{parsed}
use Rattle.frame.specs.Labels.{is_tag}
use Rattle.frame.specs.Settings.{default_life}
use Rattle.frame.specs.declared.Settings.{Settings}
use Rattle.frame_parse.specs.Meaning.{fields_in, Reads}
use Rattle.frame_parse.specs.declared.Parts.{Parts}
use Rattle.port_map.specs.Maps.{pairs_in, map_good, vlan_for}
use Rattle.port_map.specs.declared.CampusLabel.{CampusLabel}
use Rattle.port_map_pairs.specs.Pairs.{map_bytes_of}
use Rattle.port_map_pairs.specs.declared.MapPair.{MapPair}
use Rattle.port_map_one.specs.One.{LabelSearched, LabelAlike, pair_for_label, one_map}
use Rattle.port_map_one.proofs.Alike.{label_alike}
use Rattle.receive.specs.Delivering.{fine_in, stays, native_out}
use Rattle.receive.specs.Receive.{acted, reading, received_with, port_received}
use Rattle.receive.specs.declared.ReadAnswer.{ReadAnswer}
use Rattle.receive.proofs.NoMap.{tag_stays}
use Rattle.receive_deliver.specs.Meaning.{Asks}
use Rattle.receive_deliver.specs.declared.Wanted.{Wanted}
use Rattle.receive_deliver.specs.declared.Wanted.TheVariants as wanted
use Rattle.receive_pairs.specs.Meaning.{LabelAsked}
use Rattle.std.specs.Prelude.{Option, Ok, Err}
use Rattle.numbers.specs.declared.refusals.Refusal.TheVariants.{MapBad}
use Rattle.numbers.specs.declared.refusals.Refusal.{Refusal}
use Rattle.port_map.specs.declared.PortVlan.{PortVlan}

-- ---- the label asked

-- a frame that is refused has no label
pub asked_refused : (s : Settings) (f : List ℕ) (r : Outcome Parts) → Reads f (parsed s f) r → (n : Refusal) → r ≡ Err n → (l : CampusLabel) → LabelAsked s f l
asked_refused s f r er n e l p q t = refused_got n p (sym (let x : Err n ≡ parsed s f = rw e at er.fields in sym x) ∙ q)

module _ (s : Settings) (f : List ℕ) (r : Outcome Parts) (er : Reads f (parsed s f) r) (k : Parts) (e : r ≡ Ok k) where
  same : (p : Fields) → parsed s f ≡ Ok p → fields_in f k ≡ p
  same p q = got_got (fields_in f k) p ((let x : Ok (fields_in f k) ≡ parsed s f = rw e at er.fields in x) ∙ q)

  pub asked-nothing : (w : Wanted) → Asks w (fields_in f k) → w ≡ wanted.Nothing → (l : CampusLabel) → LabelAsked s f l
  asked-nothing w a h l p q t =
      let x : is_tag (fields_in f k).label ≡ true = rw h at a in
      false_true (sym t ∙ ap (λ (z : Fields). is_tag z.label) (sym (same p q)) ∙ x)

  pub asked_label : (w : Wanted) → Asks w (fields_in f k) → (l : CampusLabel) (v : ℕ) → w ≡ wanted.Vlan l v → LabelAsked s f l
  asked_label w a l v h p q t =
      let x : Asks (wanted.Vlan l v) (fields_in f k) = rw h at a in
      x.1.0 ∙ ap (λ (z : Fields). fine_in z.label) (same p q)

-- ---- two maps between which a search for that label does not tell

native_untagged : (m k : List ℕ) (p : Fields) (l : CampusLabel) → is_tag p.label ≡ false → l ≡ fine_in p.label → eqb (length m) 0 ≡ eqb (length k) 0 → vlan_for (pairs_in m) l ≡ vlan_for (pairs_in k) l → native_out m p ≡ native_out k p
unfolding native_out stays
native_untagged m k p l e is none found = rw (none, ← is, found)

module _ (s : Settings) (f : List ℕ) (l : CampusLabel) (asked : LabelAsked s f l) (m k : List ℕ) (a : LabelAlike l m k) where
  native_alike : (p : Fields) → parsed s f ≡ Ok p → map_good m ≡ true → native_out m p ≡ native_out k p
  native_alike p q g = go (is_tag p.label) refl
    where
      go : (c : Bool) → is_tag p.label ≡ c → native_out m p ≡ native_out k p
      go true e = tag_stays m p e ∙ sym (tag_stays k p e)
      go false e = native_untagged m k p l e (asked p q e) a.none (a.found g)

  acted_alike : (t o : List ℕ) (x : Outcome Fields) → parsed s f ≡ x → map_good m ≡ true → and_then x (λ p. acted m default_life s p t o) ≡ and_then x (λ p. acted k default_life s p t o)
  unfolding and_then acted
  acted_alike t o (Err n) q g = refl
  acted_alike t o (Ok p) q g = rw (native_alike p q g)

  read_by : (t o : List ℕ) (c : Bool) → map_good m ≡ c → check c MapBad (and_then (parsed s f) (λ p. acted m default_life s p t o)) ≡ check c MapBad (and_then (parsed s f) (λ p. acted k default_life s p t o))
  unfolding check
  read_by t o true e = acted_alike t o (parsed s f) refl e
  read_by t o false e = refl

  pub read_alike : (t o : List ℕ) → port_received s k f t o ≡ port_received s m f t o
  unfolding port_received received_with reading
  read_alike t o = rw (← a.good, read_by t o (map_good m) refl)

-- ---- with what was found in a slice

module _ (s : Settings) (f t o : List ℕ) (n : ℕ) (good : Bool) (l : CampusLabel) (v : Option PortVlan) where
  pub read_found : (m : List ℕ) → m ≡ one_map n good (pair_for_label l v) → (x : OnBoth (Outcome ReadAnswer)) → x ≡ port_received s m f t o
      → (ps : List MapPair) → LabelSearched ps n good l v → LabelAsked s f l → x ≡ port_received s (map_bytes_of ps) f t o
  read_found m is x e ps k asked =
      e ∙ ap (λ (b : List ℕ). port_received s b f t o) is ∙ read_alike s f l asked (map_bytes_of ps) (one_map n good (pair_for_label l v)) (label_alike ps n good l v k) t o
