-- The tests of a native frame and of what the caller gives, one after the other; and the outcomes of the call.
-- Assumes nothing.
use Prim.Native.Nat.{ℕ, ◌+◌, ◌-◌, ◌/◌, ◌%◌, ◌^◌, ◌≤◌, ◌<◌}
use native.Mathlib.Omega.{arith}
use mathlib.Core.Bool.{Bool, true, false}
use mathlib.Core.List.{List}
use mathlib.Core.Path.{◌≡◌, refl, sym, ◌∙◌}
use lib.Dec.{eqb}
use lib.ListN.{length, take, drop, length-drop}
use borrow.Author.Tests.{le-leb, lt-leb, eq-eqb, ne_eqb}
use Rattle.numbers.specs.Tests.{pick, both, between}
use Rattle.numbers.specs.Result.{Outcome, check, and_then, settled}
use Rattle.numbers.specs.After.{OnArea, on_area}
use Rattle.numbers.specs.Bytes.{num, starts_with}
use Rattle.numbers.specs.Ranges.{individual, vlan_good}
use Rattle.frame.specs.Front.{all_rbridges}
use Rattle.frame.specs.Header.{word_at}
use Rattle.frame.specs.Labels.{low12}
use Rattle.frame.specs.Formats.{frame_length_good}
use Rattle.frame.specs.Settings.{settings_good}
use Rattle.frame.specs.declared.Settings.{Settings}
use Rattle.frame_copy.specs.Areas.{pasted}
use Rattle.frame_copy.proofs.Copying.{paste_laid}
use Rattle.convert.specs.Compaction.{written}
use Rattle.port_map.specs.Maps.{port_vlan, pairs_in, map_good, label_for}
use Rattle.port_map.specs.declared.PortVlan.{PortVlan}
use Rattle.port_map.specs.declared.CampusLabel.{CampusLabel}
use Rattle.port_map_search.specs.Meaning.{label_as}
use Rattle.ingress.specs.Ingress.{Native, given_good, hops_good, nicks_good, destination_agrees, native_parsed, general_for, longer_by, judged, ingressing, ingressed}
use Rattle.ingress.specs.declared.Given.{Given}
use Rattle.ingress_call.specs.Meaning.{native_with, Judges, native_judged, put_on}
use Rattle.ingress_call.proofs.Pieces.{general-length}
use Rattle.std.specs.Prelude.{Option, Some, None, Ok, Err}
use Rattle.numbers.specs.declared.refusals.Refusal.TheVariants.{SettingsBad, FrameLengthBad, CutShort, HopsSpent, NicknameBad, LabelBad, SourceGroup, MulticastDisagrees, AreaShort, MapBad, NoPair}
use Rattle.numbers.specs.declared.refusals.Refusal.{Refusal}
use Rattle.ingress_call.specs.declared.Tagged.{Tagged}

-- ---- M and the outer destination

module _ (u : Given) where
  pub agrees-all : u.multicast ≡ 1 → eqb u.destination all_rbridges ≡ destination_agrees u
  unfolding destination_agrees pick
  agrees-all h = rw (eq-eqb u.multicast 1 h)

  pub agrees-one : (u.multicast ≡ 1 → ⊥) → (r : Bool) → r ≡ individual u.destination → r ≡ destination_agrees u
  unfolding destination_agrees pick
  agrees-one h r e = rw (ne_eqb u.multicast 1 h) e

-- ---- the native frame

no : (f : List ℕ) (x : Outcome Native) (n : Refusal) → Err n ≡ x → Judges f x (Err n)
no f x n e = record { native = e; fits = tt }

module _ (f : List ℕ) where
  pub native_short : length f < 14 → Judges f (native_judged f) (Err FrameLengthBad)
  unfolding native_judged check frame_length_good between both
  native_short h = no f _ FrameLengthBad (rw (lt-leb 14 (length f) h))

  good : Bool
  good = both (frame_length_good (length f)) (frame_length_good (length f + 24))

  long_bad : (a b : Bool) (r : Outcome Native) → b ≡ false → Err FrameLengthBad ≡ check a FrameLengthBad (check b FrameLengthBad r)
  unfolding check
  long_bad true b r h = rw h
  long_bad false b r h = refl

  too_long : (n : ℕ) → 9216 < n → frame_length_good n ≡ false
  unfolding frame_length_good between both
  too_long n h = rw (le-leb 14 n (omega arith), lt-leb n 9216 h)

  in_length : (n : ℕ) → 14 ≤ n → n ≤ 9216 → frame_length_good n ≡ true
  unfolding frame_length_good between both
  in_length n a b = rw (le-leb 14 n a, le-leb n 9216 b)

  pub native_long : 9192 < length f → Judges f (native_judged f) (Err FrameLengthBad)
  unfolding native_judged
  native_long h = no f _ FrameLengthBad (long_bad (frame_length_good (length f)) (frame_length_good (length f + 24)) (native_parsed f) (too_long (length f + 24) (omega arith)))

  module _ (some : 14 ≤ length f) (few : length f ≤ 9192) where
    parses : native_judged f ≡ native_parsed f
    unfolding native_judged check
    parses = rw (in_length (length f) some (omega arith), in_length (length f + 24) (omega arith) (omega arith))

    module _ (t : Bool) (et : t ≡ starts_with (0x8100 / 256) (0x8100 % 256) (drop 12 f)) where
      pub native_untagged : t ≡ false → Judges f (native_judged f) (Err LabelBad)
      unfolding native_parsed check
      native_untagged h = no f _ LabelBad (rw (parses, ← et, h))

      module _ (tagged : t ≡ true) where
        pub native_cut : length f < 16 → Judges f (native_judged f) (Err CutShort)
        unfolding native_parsed check
        native_cut h = no f _ CutShort (rw (parses, ← et, tagged, lt-leb 16 (length f) h))

        module _ (there : 16 ≤ length f) (w : ℕ) (ew : w ≡ word_at 14 f) (g : Bool) (eg : g ≡ vlan_good (w % 0x1000)) where
          vlan_good_lem : vlan_good (low12 14 f) ≡ g
          vlan_good_lem = sym (rw ew at eg)

          pub native_vlan : g ≡ false → Judges f (native_judged f) (Err LabelBad)
          unfolding native_parsed check
          native_vlan h = no f _ LabelBad (rw (parses, ← et, tagged, le-leb 16 (length f) there, vlan_good_lem, h))

          module _ (vlan : g ≡ true) where
            pub native_empty : length f - 16 < 2 → Judges f (native_judged f) (Err CutShort)
            unfolding native_parsed check
            native_empty h =
                let d = length-drop 16 f in
                no f _ CutShort (rw (parses, ← et, tagged, le-leb 16 (length f) there, vlan_good_lem, vlan, lt-leb 2 (length (drop 16 f)) (omega arith)))

            pub native_good : 2 ≤ length f - 16 → w < 2 ^ 16 → Judges f (native_judged f) (Ok (record { vlan = (port_vlan (w % 0x1000)); priority = (w / 0x2000) }))
            unfolding native_parsed check
            native_good h small =
                let d = length-drop 16 f in
                record {
                  native = rw (parses, ← et, tagged, le-leb 16 (length f) there, vlan_good_lem, vlan, le-leb 2 (length (drop 16 f)) (omega arith), ew);
                  fits = (there, (omega arith, omega arith));
                }

-- ---- the verdict

module _ (u : Given) (f : List ℕ) where
  judged_is : judged u f ≡ and_then (native_judged f) (λ n. check (individual (num n.src)) SourceGroup (check (hops_good u) HopsSpent (check (nicks_good u) NicknameBad (check (destination_agrees u) MulticastDisagrees (Ok n)))))
  unfolding judged native_judged check and_then
  judged_is = go (frame_length_good (length f)) (frame_length_good (length f + longer_by)) (native_parsed f) _
    where
      go : (a b : Bool) (x : Outcome Native) (k : Native → Outcome Native) → check a FrameLengthBad (check b FrameLengthBad (and_then x k)) ≡ and_then (check a FrameLengthBad (check b FrameLengthBad x)) k
      go true true x k = refl
      go true false x k = refl
      go false b x k = refl

  pub verdict_native : (n : Refusal) → Judges f (native_judged f) (Err n) → Judges f (judged u f) (Err n)
  unfolding and_then
  verdict_native n j = no f _ n (sym (judged_is ∙ rw (← j.native)))

  module _ (t : Tagged) (j : Judges f (native_judged f) (Ok t)) where
    pub source_room : 6 + 6 ≤ length f
    source_room = let k = j.fits.0 in omega arith

    tagged_is : judged u f ≡ check (individual (num (take 6 (drop 6 f)))) SourceGroup (check (hops_good u) HopsSpent (check (nicks_good u) NicknameBad (check (destination_agrees u) MulticastDisagrees (Ok (native_with f t.vlan t.priority)))))
    unfolding and_then
    tagged_is = judged_is ∙ rw (← j.native)

    module _ (x : ℕ) (ex : x ≡ num (take 6 (drop 6 f))) (i : Bool) (ei : i ≡ individual x) where
      pub verdict_source : i ≡ false → Judges f (judged u f) (Err SourceGroup)
      unfolding check
      verdict_source h = no f _ SourceGroup (sym (tagged_is ∙ rw (← ex, ← ei, h)))

      module _ (is : i ≡ true) (a : Bool) (ea : a ≡ hops_good u) where
        pub verdict_hops : a ≡ false → Judges f (judged u f) (Err HopsSpent)
        unfolding check
        verdict_hops h = no f _ HopsSpent (sym (tagged_is ∙ rw (← ex, ← ei, is, ← ea, h)))

        module _ (ha : a ≡ true) (b : Bool) (eb : b ≡ nicks_good u) where
          pub verdict_nicks : b ≡ false → Judges f (judged u f) (Err NicknameBad)
          unfolding check
          verdict_nicks h = no f _ NicknameBad (sym (tagged_is ∙ rw (← ex, ← ei, is, ← ea, ha, ← eb, h)))

          module _ (hb : b ≡ true) (d : Bool) (ed : d ≡ destination_agrees u) where
            pub verdict_destination : d ≡ false → Judges f (judged u f) (Err MulticastDisagrees)
            unfolding check
            verdict_destination h = no f _ MulticastDisagrees (sym (tagged_is ∙ rw (← ex, ← ei, is, ← ea, ha, ← eb, hb, ← ed, h)))

            pub verdict_good : d ≡ true → Judges f (judged u f) (Ok t)
            unfolding check
            verdict_good h = record {
              native = sym (tagged_is ∙ rw (← ex, ← ei, is, ← ea, ha, ← eb, hb, ← ed, h));
              fits = j.fits;
            }

-- ---- 16, or written

module _ (u : Given) (v : PortVlan) (q : ℕ) (l : CampusLabel) (f o : List ℕ) (there : 16 ≤ length f) where
  pub put_short : length o < length f + 24 → on_area (Err AreaShort) o ≡ put_on (general_for u (native_with f v q) l) o
  unfolding written settled check
  put_short h = rw (general-length u q l f o there v, lt-leb (length f + 24) (length o) h)

  pub put_done : length f + 24 ≤ length o → (e : List ℕ) → ((w : PortVlan) → e ≡ pasted o 0 (general_for u (native_with f w q) l)) → on_area (Ok (length f + 24)) e ≡ put_on (general_for u (native_with f v q) l) o
  unfolding written settled check
  put_done h e w = rw (general-length u q l f o there v, le-leb (length f + 24) (length o) h, w v, paste_laid o (general_for u (native_with f v q) l))

-- ---- the call

module _ (s : Settings) (m : List ℕ) (u : Given) (f o : List ℕ) (g : Bool) (eg : g ≡ settings_good s) where
  pub settings_out : g ≡ false → on_area (Err SettingsBad) o ≡ ingressed s m u f o
  unfolding ingressed ingressing settled check and_then
  settings_out h = rw (← eg, h)

  module _ (set : g ≡ true) (a : Bool) (ea : a ≡ given_good u) where
    pub given_out : a ≡ false → on_area (Err SettingsBad) o ≡ ingressed s m u f o
    unfolding ingressed ingressing settled check and_then
    given_out h = rw (← eg, set, ← ea, h)

    module _ (ha : a ≡ true) (k : Bool) (ek : k ≡ map_good m) where
      pub map_out : k ≡ false → on_area (Err MapBad) o ≡ ingressed s m u f o
      unfolding ingressed ingressing settled check and_then
      map_out h = rw (← eg, set, ← ea, ha, ← ek, h)

      module _ (hk : k ≡ true) where
        pub judge_out : (n : Refusal) → Judges f (judged u f) (Err n) → on_area (Err n) o ≡ ingressed s m u f o
        unfolding ingressed ingressing settled check and_then
        judge_out n j = rw (← eg, set, ← ea, ha, ← ek, hk, ← j.native)

        module _ (t : Tagged) (j : Judges f (judged u f) (Ok t)) where
          module _ (x : Option CampusLabel) (ex : label_as x ≡ label_for (pairs_in m) t.vlan) where
            pub missing_out : x ≡ None → on_area (Err NoPair) o ≡ ingressed s m u f o
            unfolding ingressed ingressing settled check and_then
            missing_out h = rw (← eg, set, ← ea, ha, ← ek, hk, ← j.native, ← ex, h)

            pub put_out : (l : CampusLabel) → x ≡ Some l → (y : OnArea (Outcome ℕ)) → y ≡ put_on (general_for u (native_with f t.vlan t.priority) l) o → y ≡ ingressed s m u f o
            unfolding ingressed ingressing settled check and_then
            put_out l h y ey = ey ∙ rw (← eg, set, ← ea, ha, ← ek, hk, ← j.native, ← ex, h)
