-- VLANs from the last pair to the first: the bits are those of the pairs behind, which are good. Labels from the first to the last: what
-- is left decides.
-- Assumes nothing.
use Prim.Native.Nat.{ℕ, zero, suc, ◌+◌, ◌-◌, ◌*◌, ◌/◌, ◌%◌, ◌^◌, ◌≤◌, ◌<◌}
use native.Mathlib.Omega.{arith}
use mathlib.Core.Bool.{Bool, true, false, not, ◌&&◌}
use mathlib.Core.List.{List, [], ◌∷◌, map}
use mathlib.Core.Path.{◌≡◌, refl, sym, ap, ◌∙◌, subst}
use lib.Dec.{leb, eqb}
use lib.ListN.{length, take, drop, get_or, set, length-drop}
use lib.Seq.{drop-drop, take_all}
use borrow.Author.Tests.{eq-eqb, ne_eqb, eqb-true, eqb-false, le-leb, lt-leb, leb-true}
use Rattle.std.specs.List.{list_all, range_with_len}
use Rattle.numbers.specs.Tests.{pick, both, either, any_of, between}
use Rattle.numbers.specs.Numberings.{bit_at}
use Rattle.numbers.specs.Ranges.{first_vlan, last_vlan, vlan_good, last_fine}
use Rattle.numbers.proofs.Truth.{between_is, either_first, both_right}
use Rattle.numbers.proofs.Answers.{refused_got}
use lib.Bits.{bit_or}
use Rattle.flush_bits.specs.Ranged.{mask_of, Ranged}
use Rattle.flush_bits.proofs.Laws.{every, every_at, part_added, range_tells}
use Rattle.port_map.specs.Maps.{pair_bytes, Pair, pairs_in, good_once, vlan_of, label_of, fine_good, pairs_good, map_good, label_for, vlan_for}
use Rattle.port_map.specs.declared.PortVlan.{PortVlan}
use Rattle.port_map.specs.declared.CampusLabel.{CampusLabel}
use Rattle.port_map.proofs.Steps.{pairs_end, pairs_more, pairs_done, pairs_at}
use Rattle.port_map_search.specs.Meaning.{pair_at, label_as, vlan_as}
use Rattle.port_map_judge.specs.Meaning.{vlans_in, labels_in, alone_at, seen_bytes, Noted, met_bytes, Met, LabelNoted, low_bytes, high_bytes, low_of, high_of, MetAt, LabelNotedTwice}
use Rattle.std.specs.Prelude.{Option, Some, None, Ok, Err, is_some}
use Rattle.numbers.specs.declared.refusals.Refusal.TheVariants.{NoPair}
use Rattle.numbers.specs.declared.refusals.Refusal.{Refusal}

-- ---- one bit

shifts : every 8 (λ k. eqb (128 / 2 ^ k) (mask_of k (k + 1))) ≡ true
unfolding mask_of both
shifts = refl

pub number_added : (s : List ℕ) (x : ℕ) → x < 8 * length s → (t : List ℕ) → t ≡ set s (x / 8) (bit_or (get_or s (x / 8) 0) (128 / 2 ^ (x % 8))) → Ranged s t x (x + 1)
number_added s x room t e =
    let b = eqb-true _ _ (every_at 8 (λ k. eqb (128 / 2 ^ k) (mask_of k (k + 1))) shifts (x % 8) (omega arith)) in
    let p : x + 1 - x / 8 * 8 ≡ x % 8 + 1 = omega arith in
    part_added s x (x + 1) (omega arith) room (omega arith) _ (rw p b) t e

-- ---- numbers that stand once

module _ (good : ℕ → Bool) (f : Pair → ℕ) where
  -- from a pair on they do not: then not from the start either
  once_later : (j : ℕ) (m : List ℕ) → pair_bytes * j ≤ length m → good_once good (map f (pairs_in (drop (pair_bytes * j) m))) ≡ false → good_once good (map f (pairs_in m)) ≡ false
  unfolding good_once
  once_later zero m h e = e
  once_later (suc j) m h e =
      let d = length-drop pair_bytes m in
      let k : pair_bytes + pair_bytes * j ≡ pair_bytes * suc j = omega arith in
      let r : drop (pair_bytes * j) (drop pair_bytes m) ≡ drop (pair_bytes * suc j) m = drop-drop (pair_bytes * j) pair_bytes m ∙ ap (λ (n : ℕ). drop n m) k in
      let q = once_later j (drop pair_bytes m) (omega arith) (ap (λ (x : List ℕ). good_once good (map f (pairs_in x))) r ∙ e) in
      ap (λ (ps : List Pair). good_once good (map f ps)) (pairs_more m (omega arith)) ∙ both_right _ _ (both_right _ _ q)

  pub once_from : (m : List ℕ) (at : ℕ) → at % pair_bytes ≡ 0 → at ≤ length m → good_once good (map f (pairs_in (drop at m))) ≡ false → good_once good (map f (pairs_in m)) ≡ false
  once_from m at whole h e =
      let k : at ≡ pair_bytes * (at / pair_bytes) = omega arith in
      once_later (at / pair_bytes) m (omega arith) (ap (λ (n : ℕ). good_once good (map f (pairs_in (drop n m)))) (sym k) ∙ e)

  pub once_at : (m : List ℕ) (at : ℕ) → at + pair_bytes ≤ length m
      → good_once good (map f (pairs_in (drop at m)))
      ≡ both (good (f (pair_at m at))) (both (not (any_of (eqb (f (pair_at m at))) (map f (pairs_in (drop (at + pair_bytes) m))))) (good_once good (map f (pairs_in (drop (at + pair_bytes) m)))))
  unfolding good_once
  once_at m at h = rw (pairs_at m at h)

  pub once_none : (m : List ℕ) (at : ℕ) → length m - at < pair_bytes → good_once good (map f (pairs_in (drop at m))) ≡ true
  unfolding good_once
  once_none m at h = rw (pairs_done m at h)

-- ---- noting a VLAN

unfolded : (v : ℕ) → vlan_good v ≡ true → between first_vlan last_vlan v ≡ true
unfolding vlan_good
unfolded v h = h

never : {C : Type 0} → false ≡ true → C
never e = absurd (let z : ◌≡◌ {A = ℕ} 0 1 = cc in omega arith)

module _ (q p : PortVlan) (is : p ≡ q) (g : Bool) (e : g ≡ vlan_good p.0) where
  pub note_bad : (s : List ℕ) → g ≡ false → Noted q.0 s s false
  unfolding both
  note_bad s h = record { says = rw (← is, ← e, h); added = λ t. never t }

  module _ (h : g ≡ true) where
    fits : p.0 ≤ last_vlan
    fits = (between_is first_vlan last_vlan p.0 (unfolded p.0 (sym e ∙ h))).1

    pub vlan_room : (s : List ℕ) → length s ≡ seen_bytes → p.0 < 8 * length s
    vlan_room s l = let f = fits in omega arith

    module _ (s : List ℕ) (b : Bool) (eb : b ≡ bit_at p.0 s) where
      pub note_again : b ≡ true → Noted q.0 s s false
      unfolding both
      note_again t = record { says = rw (← is, ← e, h, ← eb, t); added = λ t. never t }

      pub note_new : b ≡ false → (t : List ℕ) → Ranged s t p.0 (p.0 + 1) → Noted q.0 s t true
      unfolding both
      note_new f t r = subst (λ (x : PortVlan). Noted x.0 s t true) is (record { says = rw (← e, h, ← eb, f); added = λ z. r })

-- ---- all VLANs

pub record Seen (m : List ℕ) (j : ℕ) (s : List ℕ) : Type 0 where
  pub within : pair_bytes * j ≤ length m
  pub long : length s ≡ seen_bytes
  pub once : good_once vlan_good (vlans_in (drop (pair_bytes * j) m)) ≡ true
  pub bits : (x : ℕ) → bit_at x s ≡ any_of (eqb x) (vlans_in (drop (pair_bytes * j) m))

pub seen_start : (m s : List ℕ) → length s ≡ seen_bytes → ((x : ℕ) → bit_at x s ≡ false) → Seen m (length m / pair_bytes) s
unfolding any_of
seen_start m s l none = record {
  within = omega arith;
  long = l;
  once = once_none vlan_good vlan_of m (pair_bytes * (length m / pair_bytes)) (omega arith);
  bits = λ x. none x ∙ sym (ap (λ (ps : List Pair). any_of (eqb x) (map vlan_of ps)) (pairs_done m (pair_bytes * (length m / pair_bytes)) (omega arith)));
}

within-one : (v x : ℕ) (b : Bool) → eqb x v ≡ b → both (leb v x) (leb (suc x) (v + 1)) ≡ b
unfolding both
within-one v x true e = let q = eqb-true x v e in rw (le-leb v x (omega arith), le-leb (suc x) (v + 1) (omega arith))
within-one v x false e = go (leb v x) refl
  where
    go : (a : Bool) → leb v x ≡ a → both a (leb (suc x) (v + 1)) ≡ false
    go true l = let k = leb-true v x l in let d = eqb-false x v e in lt-leb (suc x) (v + 1) (omega arith)
    go false l = refl

swap : (a c : Bool) → either a c ≡ either c a
unfolding either
swap true true = refl
swap true false = refl
swap false true = refl
swap false false = refl

no_more : (a b : Bool) → both a (both (not b) true) ≡ both a (not b)
unfolding both
no_more true true = refl
no_more true false = refl
no_more false b = refl

module _ (m : List ℕ) (j : ℕ) (s : List ℕ) (i : Seen m j s) (some : 0 < j) where
  pub seen_in : pair_bytes * (j - 1) + pair_bytes ≤ length m
  seen_in = let k = i.within in omega arith

  same : pair_bytes * (j - 1) + pair_bytes ≡ pair_bytes * j
  same = omega arith

  module _ (t : List ℕ) (r : Bool) (n : Noted (pair_at m (pair_bytes * (j - 1))).vlan.0 s t r) where
    abbrev v : ℕ
    v = vlan_of (pair_at m (pair_bytes * (j - 1)))

    step : good_once vlan_good (vlans_in (drop (pair_bytes * (j - 1)) m)) ≡ r
    step =
        once_at vlan_good vlan_of m (pair_bytes * (j - 1)) seen_in
        ∙ rw (same, i.once, ← i.bits v)
        (no_more (vlan_good v) (bit_at v s) ∙ sym n.says)

    pub seen_bad : r ≡ false → false ≡ good_once vlan_good (vlans_in m)
    seen_bad h =
        let k = i.within in
        sym (once_from vlan_good vlan_of m (pair_bytes * (j - 1)) (omega arith) (omega arith) (step ∙ h))

    more : (x : ℕ) → any_of (eqb x) (vlans_in (drop (pair_bytes * (j - 1)) m)) ≡ either (eqb x v) (any_of (eqb x) (vlans_in (drop (pair_bytes * j) m)))
    unfolding any_of
    more x = rw (pairs_at m (pair_bytes * (j - 1)) seen_in, same)

    pub seen_next : r ≡ true → Seen m (j - 1) t
    seen_next h =
        let k = i.within in
        let a = n.added h in
        record {
          within = omega arith;
          long = a.long ∙ i.long;
          once = step ∙ h;
          bits = λ x.
              range_tells s t _ _ a x
              ∙ rw (i.bits x, within-one v x (eqb x v) refl)
              (swap (any_of (eqb x) (vlans_in (drop (pair_bytes * j) m))) (eqb x v) ∙ sym (more x));
        }

pub seen_done : (m : List ℕ) (s : List ℕ) (j : ℕ) → Seen m j s → j ≤ 0 → true ≡ good_once vlan_good (vlans_in m)
seen_done m s j i h =
    let z : pair_bytes * j ≡ 0 = omega arith in
    sym (ap (λ (n : ℕ). good_once vlan_good (vlans_in (drop n m))) (sym z) ∙ i.once)

-- ---- labels

none_any : (ps : List Pair) (l : CampusLabel) (n : Refusal) → vlan_for ps l ≡ Err n → any_of (eqb l.0) (map label_of ps) ≡ false
unfolding vlan_for any_of pick either
none_any [] l n e = refl
none_any (p ∷ ps) l n e = go (eqb p.label.0 l.0) refl (none_any ps l n) e
  where
    go : (c : Bool) → eqb p.label.0 l.0 ≡ c → (vlan_for ps l ≡ Err n → any_of (eqb l.0) (map label_of ps) ≡ false)
        → pick c (Ok p.vlan) (vlan_for ps l) ≡ Err n → either (eqb l.0 (label_of p)) (any_of (eqb l.0) (map label_of ps)) ≡ false
    go true q later h = refused_got n p.vlan (sym h)
    go false q later h = rw (ne_eqb l.0 (label_of p) (λ z. eqb-false p.label.0 l.0 q (sym z))) (later h)

some_any : (ps : List Pair) (l : CampusLabel) (v : PortVlan) → vlan_for ps l ≡ Ok v → any_of (eqb l.0) (map label_of ps) ≡ true
unfolding vlan_for any_of pick either
some_any [] l v e = refused_got NoPair v e
some_any (p ∷ ps) l v e = go (eqb p.label.0 l.0) refl (some_any ps l v) e
  where
    pass : (a : Bool) → any_of (eqb l.0) (map label_of ps) ≡ true → either a (any_of (eqb l.0) (map label_of ps)) ≡ true
    pass true h = refl
    pass false h = h

    go : (c : Bool) → eqb p.label.0 l.0 ≡ c → (vlan_for ps l ≡ Ok v → any_of (eqb l.0) (map label_of ps) ≡ true)
        → pick c (Ok p.vlan) (vlan_for ps l) ≡ Ok v → either (eqb l.0 (label_of p)) (any_of (eqb l.0) (map label_of ps)) ≡ true
    go true q later h = rw (eq-eqb l.0 (label_of p) (sym (eqb-true p.label.0 l.0 q)))
    go false q later h = pass (eqb l.0 (label_of p)) (later h)

module _ (m : List ℕ) (from : ℕ) (l : CampusLabel) (r : Option PortVlan) (e : vlan_as r ≡ vlan_for (pairs_in (take (length m - from) (drop from m))) l) where
  rest : vlan_as r ≡ vlan_for (pairs_in (drop from m)) l
  rest = let d = length-drop from m in rw (take_all (length m - from) (drop from m) (omega arith)) at e

  not_again : r ≡ None → false ≡ any_of (eqb l.0) (labels_in (drop from m))
  not_again h = sym (none_any (pairs_in (drop from m)) l NoPair (sym (rw h at rest)))

  is_again : (v : PortVlan) → r ≡ Some v → true ≡ any_of (eqb l.0) (labels_in (drop from m))
  is_again v h = sym (some_any (pairs_in (drop from m)) l v (sym (rw h at rest)))

  again_by : (x : Option PortVlan) → r ≡ x → is_some x ≡ any_of (eqb l.0) (labels_in (drop from m))
  again_by None h = not_again h
  again_by (Some v) h = is_again v h

  pub again : is_some r ≡ any_of (eqb l.0) (labels_in (drop from m))
  again = again_by r refl

-- ---- each pair beside those after it, for either number of a pair

regroup : (a b c : Bool) → (both a b && c) ≡ both a (both b c)
unfolding both
regroup true true c = refl
regroup true false c = refl
regroup false b c = refl

module _ (good : ℕ → Bool) (f : Pair → ℕ) (m : List ℕ) where
  module _ (at x : ℕ) (here : x ≡ f (pair_at m at)) where
    alone_bad : good x ≡ false → false ≡ alone_at good f m at
    unfolding both
    alone_bad h = rw (← here, h)

    alone_again : good x ≡ true → (a : Bool) → a ≡ any_of (eqb x) (map f (pairs_in (drop (at + pair_bytes) m))) → not a ≡ alone_at good f m at
    unfolding both
    alone_again h a e = rw (← here, h, ← e)

  from_pair : (k i : ℕ) → length m / pair_bytes ≡ i + k → list_all (λ j. alone_at good f m (pair_bytes * j)) (range_with_len i k) ≡ good_once good (map f (pairs_in (drop (pair_bytes * i) m)))
  from_pair zero i h = sym (once_none good f m (pair_bytes * i) (omega arith))
  from_pair (suc k) i h =
      let next : pair_bytes * i + pair_bytes ≡ pair_bytes * (i + 1) = omega arith in
      let q = once_at good f m (pair_bytes * i) (omega arith) in
      ap (λ (b : Bool). alone_at good f m (pair_bytes * i) && b) (from_pair k (i + 1) (omega arith))
      ∙ regroup _ _ _ ∙ sym (q ∙ rw next)

  -- a chain over the pairs' numbers decides
  pub all_alone : (r : Bool) → r ≡ list_all (λ j. alone_at good f m (pair_bytes * j)) (range_with_len 0 (length m / pair_bytes)) → r ≡ good_once good (map f (pairs_in m))
  all_alone r e = e ∙ from_pair (length m / pair_bytes) 0 (omega arith)

module _ (m : List ℕ) (at : ℕ) (x : CampusLabel) (here : x ≡ (pair_at m at).label) where
  is_label : x.0 ≡ label_of (pair_at m at)
  is_label = rw here

  pub label_over : last_fine < x.0 → false ≡ alone_at fine_good label_of m at
  label_over h = alone_bad fine_good label_of m at x.0 is_label (lt-leb x.0 last_fine h)

  pub label_beside : x.0 ≤ last_fine → (a : Bool) → a ≡ any_of (eqb x.0) (labels_in (drop (at + pair_bytes) m)) → not a ≡ alone_at fine_good label_of m at
  label_beside h = alone_again fine_good label_of m at x.0 is_label (le-leb x.0 last_fine h)

module _ (m : List ℕ) (at : ℕ) (x : PortVlan) (here : x ≡ (pair_at m at).vlan) (g : Bool) (is : g ≡ vlan_good x.0) where
  is_vlan : x.0 ≡ vlan_of (pair_at m at)
  is_vlan = rw here

  pub vlan_bad : g ≡ false → false ≡ alone_at vlan_good vlan_of m at
  vlan_bad h = alone_bad vlan_good vlan_of m at x.0 is_vlan (sym is ∙ h)

  pub vlan_beside : g ≡ true → (a : Bool) → a ≡ any_of (eqb x.0) (vlans_in (drop (at + pair_bytes) m)) → not a ≡ alone_at vlan_good vlan_of m at
  vlan_beside h = alone_again vlan_good vlan_of m at x.0 is_vlan (sym is ∙ h)

-- ---- VLANs of short maps

none_vlan : (ps : List Pair) (v : PortVlan) (n : Refusal) → label_for ps v ≡ Err n → any_of (eqb v.0) (map vlan_of ps) ≡ false
unfolding label_for any_of pick either
none_vlan [] v n e = refl
none_vlan (p ∷ ps) v n e = go (eqb p.vlan.0 v.0) refl (none_vlan ps v n) e
  where
    go : (c : Bool) → eqb p.vlan.0 v.0 ≡ c → (label_for ps v ≡ Err n → any_of (eqb v.0) (map vlan_of ps) ≡ false)
        → pick c (Ok p.label) (label_for ps v) ≡ Err n → either (eqb v.0 (vlan_of p)) (any_of (eqb v.0) (map vlan_of ps)) ≡ false
    go true q later h = refused_got n p.label (sym h)
    go false q later h = rw (ne_eqb v.0 (vlan_of p) (λ z. eqb-false p.vlan.0 v.0 q (sym z))) (later h)

some_vlan : (ps : List Pair) (v : PortVlan) (l : CampusLabel) → label_for ps v ≡ Ok l → any_of (eqb v.0) (map vlan_of ps) ≡ true
unfolding label_for any_of pick either
some_vlan [] v l e = refused_got NoPair l e
some_vlan (p ∷ ps) v l e = go (eqb p.vlan.0 v.0) refl (some_vlan ps v l) e
  where
    pass : (a : Bool) → any_of (eqb v.0) (map vlan_of ps) ≡ true → either a (any_of (eqb v.0) (map vlan_of ps)) ≡ true
    pass true h = refl
    pass false h = h

    go : (c : Bool) → eqb p.vlan.0 v.0 ≡ c → (label_for ps v ≡ Ok l → any_of (eqb v.0) (map vlan_of ps) ≡ true)
        → pick c (Ok p.label) (label_for ps v) ≡ Ok l → either (eqb v.0 (vlan_of p)) (any_of (eqb v.0) (map vlan_of ps)) ≡ true
    go true q later h = rw (eq-eqb v.0 (vlan_of p) (sym (eqb-true p.vlan.0 v.0 q)))
    go false q later h = pass (eqb v.0 (vlan_of p)) (later h)

module _ (m : List ℕ) (from : ℕ) (v : PortVlan) (r : Option CampusLabel) (e : label_as r ≡ label_for (pairs_in (take (length m - from) (drop from m))) v) where
  rest_of : label_as r ≡ label_for (pairs_in (drop from m)) v
  rest_of = let d = length-drop from m in rw (take_all (length m - from) (drop from m) (omega arith)) at e

  vlan_not_again : r ≡ None → false ≡ any_of (eqb v.0) (vlans_in (drop from m))
  vlan_not_again h = sym (none_vlan (pairs_in (drop from m)) v NoPair (sym (rw h at rest_of)))

  vlan_is_again : (l : CampusLabel) → r ≡ Some l → true ≡ any_of (eqb v.0) (vlans_in (drop from m))
  vlan_is_again l h = sym (some_vlan (pairs_in (drop from m)) v l (sym (rw h at rest_of)))

  vlan_again_by : (x : Option CampusLabel) → r ≡ x → is_some x ≡ any_of (eqb v.0) (vlans_in (drop from m))
  vlan_again_by None h = vlan_not_again h
  vlan_again_by (Some l) h = vlan_is_again l h

  pub vlan_again : is_some r ≡ any_of (eqb v.0) (vlans_in (drop from m))
  vlan_again = vlan_again_by r refl

-- ---- labels of middling maps

not_any : (a b : Bool) → (a ≡ true → b ≡ true) → b ≡ false → false ≡ a
not_any true b f h = never (sym h ∙ f refl)
not_any false b f h = refl

module _ (l : CampusLabel) (m : List ℕ) (from : ℕ) (s : List ℕ) (met : Met (labels_in (drop from m)) s) where
  pub not_met : (b : Bool) → b ≡ bit_at (l.0 % 16384) s → b ≡ false → false ≡ any_of (eqb l.0) (labels_in (drop from m))
  not_met b e h = not_any _ _ (met l.0) (sym e ∙ h)

module _ (q p : CampusLabel) (is : p ≡ q) (l s : List ℕ) where
  pub mark_over : last_fine < p.0 → LabelNoted q.0 l s s false
  unfolding both
  mark_over h = record { says = rw (← is, lt-leb p.0 last_fine h); added = λ t. never t }

  module _ (fits : p.0 ≤ last_fine) (b : Bool) (eb : b ≡ any_of (eqb p.0) l) where
    pub mark_again : b ≡ true → LabelNoted q.0 l s s false
    unfolding both
    mark_again t = record { says = rw (← is, le-leb p.0 last_fine fits, ← eb, t); added = λ t. never t }

    pub mark_new : b ≡ false → (t : List ℕ) → Ranged s t (p.0 % 16384) (p.0 % 16384 + 1) → LabelNoted q.0 l s t true
    unfolding both
    mark_new f t r = subst (λ (x : CampusLabel). LabelNoted x.0 l s t true) is (record { says = rw (le-leb p.0 last_fine fits, ← eb, f); added = λ z. r })

-- no number, no bit
met_none : (h : ℕ → ℕ) (m s : List ℕ) → MetAt h (labels_in (drop (pair_bytes * (length m / pair_bytes)) m)) s
unfolding any_of
met_none h m s x e = never (sym (ap (λ (ps : List Pair). any_of (eqb x) (map label_of ps)) (pairs_done m (pair_bytes * (length m / pair_bytes)) (omega arith))) ∙ e)

pub record Marked (m : List ℕ) (j : ℕ) (s : List ℕ) : Type 0 where
  pub within : pair_bytes * j ≤ length m
  pub long : length s ≡ met_bytes
  pub once : good_once fine_good (labels_in (drop (pair_bytes * j) m)) ≡ true
  pub met : Met (labels_in (drop (pair_bytes * j) m)) s

pub marked_start : (m s : List ℕ) → length s ≡ met_bytes → Marked m (length m / pair_bytes) s
marked_start m s l = record {
  within = omega arith;
  long = l;
  once = once_none fine_good label_of m (pair_bytes * (length m / pair_bytes)) (omega arith);
  met = met_none (λ x. x % 16384) m s;
}

either_was : (a b c : Bool) → (a ≡ true → c ≡ true) → (b ≡ true → c ≡ true) → either a b ≡ true → c ≡ true
unfolding either
either_was true b c f g h = f refl
either_was false b c f g h = g h

-- one more number, whose bit was added
met_more : (h : ℕ → ℕ) (l k : List ℕ) (x : ℕ) (s t : List ℕ) → ((y : ℕ) → any_of (eqb y) k ≡ either (eqb y x) (any_of (eqb y) l)) → MetAt h l s → Ranged s t (h x) (h x + 1) → MetAt h k t
met_more h l k x s t more met a y e =
    either_was (eqb y x) (any_of (eqb y) l) (bit_at (h y) t)
    (λ q. let z : y ≡ x = eqb-true y x q in rw z (a.inside (h x) (omega arith) (omega arith)))
    (λ q. range_tells s t _ _ a (h y) ∙ either_first _ _ (met y q))
    (sym (more y) ∙ e)

-- the pair before those whose labels are good and stand once
module _ (m : List ℕ) (j : ℕ) (k : pair_bytes * j ≤ length m) (o : good_once fine_good (labels_in (drop (pair_bytes * j) m)) ≡ true) (some : 0 < j) where
  abbrev last : ℕ
  last = label_of (pair_at m (pair_bytes * (j - 1)))

  last_in : pair_bytes * (j - 1) + pair_bytes ≤ length m
  last_in = omega arith

  back : pair_bytes * (j - 1) + pair_bytes ≡ pair_bytes * j
  back = omega arith

  more_labels : (y : ℕ) → any_of (eqb y) (labels_in (drop (pair_bytes * (j - 1)) m)) ≡ either (eqb y last) (any_of (eqb y) (labels_in (drop (pair_bytes * j) m)))
  unfolding any_of
  more_labels y = rw (pairs_at m (pair_bytes * (j - 1)) last_in, back)

  module _ (r : Bool) (says : r ≡ both (fine_good last) (not (any_of (eqb last) (labels_in (drop (pair_bytes * (j - 1) + pair_bytes) m))))) where
    label_step : good_once fine_good (labels_in (drop (pair_bytes * (j - 1)) m)) ≡ r
    label_step =
        once_at fine_good label_of m (pair_bytes * (j - 1)) last_in
        ∙ rw (back, o) (no_more (fine_good last) (any_of (eqb last) (labels_in (drop (pair_bytes * j) m))) ∙ sym (rw back at says))

    last_bad : r ≡ false → false ≡ good_once fine_good (labels_in m)
    last_bad h = sym (once_from fine_good label_of m (pair_bytes * (j - 1)) (omega arith) (omega arith) (label_step ∙ h))

module _ (m : List ℕ) (j : ℕ) (s : List ℕ) (i : Marked m j s) (some : 0 < j) where
  pub marked_in : pair_bytes * (j - 1) + pair_bytes ≤ length m
  marked_in = last_in m j i.within i.once some

  pub marked_met : Met (labels_in (drop (pair_bytes * (j - 1) + pair_bytes) m)) s
  marked_met = rw (back m j i.within i.once some) i.met

  module _ (t : List ℕ) (r : Bool) (n : LabelNoted (pair_at m (pair_bytes * (j - 1))).label.0 (labels_in (drop (pair_bytes * (j - 1) + pair_bytes) m)) s t r) where
    pub marked_bad : r ≡ false → false ≡ good_once fine_good (labels_in m)
    marked_bad = last_bad m j i.within i.once some r n.says

    pub marked_next : r ≡ true → Marked m (j - 1) t
    marked_next h =
        let k = i.within in
        let a = n.added h in
        record {
          within = omega arith;
          long = a.long ∙ i.long;
          once = label_step m j i.within i.once some r n.says ∙ h;
          met = met_more (λ x. x % 16384) (labels_in (drop (pair_bytes * j) m)) (labels_in (drop (pair_bytes * (j - 1)) m)) _ s t (more_labels m j i.within i.once some) i.met a;
        }

pub marked_done : (m : List ℕ) (s : List ℕ) (j : ℕ) → Marked m j s → j ≤ 0 → true ≡ good_once fine_good (labels_in m)
marked_done m s j i h =
    let z : pair_bytes * j ≡ 0 = omega arith in
    sym (ap (λ (n : ℕ). good_once fine_good (labels_in (drop n m))) (sym z) ∙ i.once)

-- ---- labels of long maps

module _ (l : CampusLabel) (u v : List ℕ) where
  pub doubt_low : (b : Bool) → b ≡ bit_at (low_of l.0) u → b ≡ false → (s : List ℕ) → MetAt low_of s u → MetAt high_of s v → false ≡ false → false ≡ any_of (eqb l.0) s
  doubt_low b e h s low high t = not_any _ _ (low l.0) (sym e ∙ h)

  pub doubt_high : (b : Bool) → b ≡ bit_at (high_of l.0) v → (s : List ℕ) → MetAt low_of s u → MetAt high_of s v → b ≡ false → false ≡ any_of (eqb l.0) s
  doubt_high b e s low high t = not_any _ _ (high l.0) (sym e ∙ t)

module _ (q p : CampusLabel) (is : p ≡ q) (l s u : List ℕ) where
  pub both_over : last_fine < p.0 → LabelNotedTwice q.0 l s s u u false
  unfolding both
  both_over h = record { says = rw (← is, lt-leb p.0 last_fine h); low = λ t. never t; high = λ t. never t }

  module _ (fits : p.0 ≤ last_fine) (b : Bool) (eb : b ≡ any_of (eqb p.0) l) where
    pub both_again : b ≡ true → LabelNotedTwice q.0 l s s u u false
    unfolding both
    both_again t = record { says = rw (← is, le-leb p.0 last_fine fits, ← eb, t); low = λ t. never t; high = λ t. never t }

    pub both_new : b ≡ false → (t v : List ℕ) → Ranged s t (low_of p.0) (low_of p.0 + 1) → Ranged u v (high_of p.0) (high_of p.0 + 1) → LabelNotedTwice q.0 l s t u v true
    unfolding both
    both_new f t v a c = subst (λ (x : CampusLabel). LabelNotedTwice x.0 l s t u v true) is (record { says = rw (le-leb p.0 last_fine fits, ← eb, f); low = λ z. a; high = λ z. c })

pub record MarkedTwice (m : List ℕ) (j : ℕ) (s u : List ℕ) : Type 0 where
  pub within : pair_bytes * j ≤ length m
  pub long_low : length s ≡ low_bytes
  pub long_high : length u ≡ high_bytes
  pub once : good_once fine_good (labels_in (drop (pair_bytes * j) m)) ≡ true
  pub low : MetAt low_of (labels_in (drop (pair_bytes * j) m)) s
  pub high : MetAt high_of (labels_in (drop (pair_bytes * j) m)) u

pub twice_start : (m s u : List ℕ) → length s ≡ low_bytes → length u ≡ high_bytes → MarkedTwice m (length m / pair_bytes) s u
twice_start m s u l h = record {
  within = omega arith;
  long_low = l;
  long_high = h;
  once = once_none fine_good label_of m (pair_bytes * (length m / pair_bytes)) (omega arith);
  low = met_none low_of m s;
  high = met_none high_of m u;
}

module _ (m : List ℕ) (j : ℕ) (s u : List ℕ) (i : MarkedTwice m j s u) (some : 0 < j) where
  pub twice_in : pair_bytes * (j - 1) + pair_bytes ≤ length m
  twice_in = last_in m j i.within i.once some

  pub twice_low : MetAt low_of (labels_in (drop (pair_bytes * (j - 1) + pair_bytes) m)) s
  twice_low = rw (back m j i.within i.once some) i.low

  pub twice_high : MetAt high_of (labels_in (drop (pair_bytes * (j - 1) + pair_bytes) m)) u
  twice_high = rw (back m j i.within i.once some) i.high

  module _ (t v : List ℕ) (r : Bool) (n : LabelNotedTwice (pair_at m (pair_bytes * (j - 1))).label.0 (labels_in (drop (pair_bytes * (j - 1) + pair_bytes) m)) s t u v r) where
    pub twice_bad : r ≡ false → false ≡ good_once fine_good (labels_in m)
    twice_bad = last_bad m j i.within i.once some r n.says

    pub twice_next : r ≡ true → MarkedTwice m (j - 1) t v
    twice_next h =
        let k = i.within in
        let a = n.low h in
        let c = n.high h in
        let more = more_labels m j i.within i.once some in
        record {
          within = omega arith;
          long_low = a.long ∙ i.long_low;
          long_high = c.long ∙ i.long_high;
          once = label_step m j i.within i.once some r n.says ∙ h;
          low = met_more low_of (labels_in (drop (pair_bytes * j) m)) (labels_in (drop (pair_bytes * (j - 1)) m)) _ s t more i.low a;
          high = met_more high_of (labels_in (drop (pair_bytes * j) m)) (labels_in (drop (pair_bytes * (j - 1)) m)) _ u v more i.high c;
        }

pub twice_done : (m s u : List ℕ) (j : ℕ) → MarkedTwice m j s u → j ≤ 0 → true ≡ good_once fine_good (labels_in m)
twice_done m s u j i h =
    let z : pair_bytes * j ≡ 0 = omega arith in
    sym (ap (λ (n : ℕ). good_once fine_good (labels_in (drop n m))) (sym z) ∙ i.once)

-- ---- the whole map

module _ (m : List ℕ) where
  pub good_empty : length m ≡ 0 → true ≡ map_good m
  unfolding map_good pairs_good good_once both
  good_empty h = rw (h, pairs_end m (omega arith))

  pub good_cut : (length m % pair_bytes ≡ 0 → ⊥) → false ≡ map_good m
  unfolding map_good both
  good_cut h = rw (ne_eqb (length m % pair_bytes) 0 h)

  module _ (h : length m % pair_bytes ≡ 0) (v : Bool) (ev : v ≡ good_once vlan_good (vlans_in m)) where
    pub good_vlans : v ≡ false → false ≡ map_good m
    unfolding map_good pairs_good both
    good_vlans n = rw (eq-eqb (length m % pair_bytes) 0 h, ← ev, n)

    pub good_labels : v ≡ true → (l : Bool) → l ≡ good_once fine_good (labels_in m) → l ≡ map_good m
    unfolding map_good pairs_good both
    good_labels n l el = rw (eq-eqb (length m % pair_bytes) 0 h, ← ev, n) el
