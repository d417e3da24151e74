-- `chunks_exact` reads a map's pairs one after the other, and the first of them that a search finds decides.
-- Assumes nothing.
use Prim.Native.Nat.{ℕ, zero, suc, ◌≤◌, ◌<◌}
use native.Mathlib.Omega.{arith}
use mathlib.Core.Bool.{Bool, true, false, cond}
use mathlib.Core.List.{List, [], ◌∷◌, ◌++◌}
use mathlib.Core.Path.{◌≡◌, refl, sym, ap, ◌∙◌}
use lib.ListN.{length, take, drop, length-append, length-drop}
use lib.Seq.{take_at, drop_at, take-take}
use lib.Dec.{eqb}
use denote.Ref.{Bor}
use denote.Param.Members.{Mut}
use Rattle.std.specs.Fn.{CalledAt}
use Rattle.std.specs.Iterator.{AlwaysYields, FindsItem}
use Rattle.std.specs.Slice.Iter.{chunks_exact_steps, chunks_exact_rest, chunks_exact_size}
use Rattle.std.specs.declared.slice.ChunksExact.{ChunksExact}
use Rattle.std.specs.List.{find}
use Rattle.std.specs.Option.{option_map, option_map_or}
use Rattle.std.specs.declared.option.Option.{Option}
use Rattle.std.specs.declared.option.Option.TheVariants.{Some}
use Rattle.std.proofs.Common.{inl, inr}
use Rattle.std.proofs.lemmas.Bool.{cases_lt}
use Rattle.std.proofs.lemmas.Iterator.{YieldsList}
use Rattle.std.proofs.lemmas.Iterator.Search.{find_from_yields_List}
use Rattle.numbers.specs.Tests.{pick}
use Rattle.numbers.specs.Result.{Outcome}
use Rattle.port_map.specs.Maps.{pair_bytes, Pair, pair_of, pairs_in, label_for, vlan_for}
use Rattle.port_map.specs.declared.PortVlan.{PortVlan}
use Rattle.port_map.specs.declared.CampusLabel.{CampusLabel}
use Rattle.port_map_search.specs.Meaning.{pair_at}
use Rattle.port_map.proofs.Steps.{pairs_end, pairs_more}
use Rattle.std.specs.Prelude.{Ok, Err}
use Rattle.numbers.specs.declared.refusals.Refusal.TheVariants.{NoPair}

-- the pair in one chunk
abbrev pub pair_read : Bor (List ℕ) → Pair
pair_read x = pair_at x.now 0

none : (s : ChunksExact ℕ) (m : List ℕ) → chunks_exact_size s ≡ pair_bytes → chunks_exact_rest s ≡ m → length m < pair_bytes → AlwaysYields chunks_exact_steps pair_read s (pairs_in m)
none s m e r h = rw (pairs_end m h) (λ x j k. let l = length-append x.now (chunks_exact_rest j) in let q = ap length k.1.0 in let p = ap length r in omega arith)

read : (n : ℕ) (s : ChunksExact ℕ) (m : List ℕ) → chunks_exact_size s ≡ pair_bytes → chunks_exact_rest s ≡ m → length m ≤ n → AlwaysYields chunks_exact_steps pair_read s (pairs_in m)
read zero s m e r h = none s m e r (omega arith)
read (suc n) s m e r h =
    elim (cases_lt (length m) pair_bytes) [ inl few ↦ none s m e r few | inr some ↦ more (read n) some ]
  where
    more : ((j : ChunksExact ℕ) (l : List ℕ) → chunks_exact_size j ≡ pair_bytes → chunks_exact_rest j ≡ l → length l ≤ n → AlwaysYields chunks_exact_steps pair_read j (pairs_in l)) → pair_bytes ≤ length m → AlwaysYields chunks_exact_steps pair_read s (pairs_in m)
    more again some = rw (pairs_more m some) (
      (λ j k. let p = ap length r in omega (arith, k.1.0)),
      λ x j k.
          let p : m ≡ x.now ++ chunks_exact_rest j = sym r ∙ k.1.0 in
          let l : length x.now ≡ pair_bytes = k.1.1 ∙ e in
          let t : take pair_bytes m ≡ x.now = rw p (take_at x.now (chunks_exact_rest j) pair_bytes l) in
          let d : drop pair_bytes m ≡ chunks_exact_rest j = rw p (drop_at x.now (chunks_exact_rest j) pair_bytes l) in
          (ap (λ l. pair_of (take pair_bytes l)) (sym t) ∙ ap pair_of (take-take pair_bytes pair_bytes m (omega arith)), again j (drop pair_bytes m) (k.0 ∙ e) (sym d) (omega (arith, length-drop pair_bytes m))),
    )

pub pairs_read : {s : ChunksExact ℕ} (m : List ℕ) → chunks_exact_size s ≡ pair_bytes → chunks_exact_rest s ≡ m → YieldsList chunks_exact_steps pair_read s (pairs_in m)
pairs_read {s} m e r = record { runs = read (length m) s m e r (omega arith) }

-- ---- the searches: what is found is the first pair with that key, or none

module _ {A V : Type 0} (key : A → ℕ) (k : ℕ) (value : A → V) (seek : List A → Outcome V) where
  abbrev pub answered : Option A → Outcome V
  answered o = option_map_or (λ p. Ok (value p)) o (Err NoPair)

  pub sought : seek [] ≡ Err NoPair → ((p : A) (ps : List A) → seek (p ∷ ps) ≡ pick (eqb (key p) k) (Ok (value p)) (seek ps)) → (ps : List A) → answered (find (λ p. eqb (key p) k) ps) ≡ seek ps
  unfolding pick
  sought none_left one_more [] = sym none_left
  sought none_left one_more (p ∷ ps) = go (eqb (key p) k) (sought none_left one_more ps) ∙ sym (one_more p ps)
    where
      go : (c : Bool) → answered (find (λ q. eqb (key q) k) ps) ≡ seek ps → answered (cond c (Some p) (find (λ q. eqb (key q) k) ps)) ≡ pick c (Ok (value p)) (seek ps)
      go true later = refl
      go false later = later

module _ {V : Type 0} (key : Pair → ℕ) (k : ℕ) (value : Pair → V) (seek : List Pair → Outcome V) where
  module _ (none_left : seek [] ≡ Err NoPair) (one_more : (p : Pair) (ps : List Pair) → seek (p ∷ ps) ≡ pick (eqb (key p) k) (Ok (value p)) (seek ps)) where
    module _ {F : Type 0} {g : Mut F (Bor (Bor (List ℕ)) × Unit {0}) Bool} {s : ChunksExact ℕ} {f : F} (r : Option (Bor (List ℕ))) (u : ChunksExact ℕ) where
      found : (m : List ℕ) → chunks_exact_size s ≡ pair_bytes → chunks_exact_rest s ≡ m → FindsItem chunks_exact_steps g s f r u
          → ((x : Bor (List ℕ)) (b : Bool) (q : F) → CalledAt g f x b q → (q ≡ f) × (b ≡ eqb (key (pair_read x)) k))
          → answered key k value seek (option_map pair_read r) ≡ seek (pairs_in m)
      found m n e ran calls = ap (answered key k value seek) (find_from_yields_List (λ p. eqb (key p) k) u f r ran (pairs_read m n e) calls) ∙ sought key k value seek none_left one_more (pairs_in m)

module _ {F : Type 0} {g : Mut F (Bor (Bor (List ℕ)) × Unit {0}) Bool} {s : ChunksExact ℕ} {f : F} (r : Option (Bor (List ℕ))) (u : ChunksExact ℕ) where
  pub label_found : (m : List ℕ) (v : PortVlan) → chunks_exact_size s ≡ pair_bytes → chunks_exact_rest s ≡ m → FindsItem chunks_exact_steps g s f r u
      → ((x : Bor (List ℕ)) (b : Bool) (q : F) → CalledAt g f x b q → (q ≡ f) × (b ≡ eqb (pair_read x).vlan.0 v.0))
      → option_map_or (λ p. Ok p.label) (option_map pair_read r) (Err NoPair) ≡ label_for (pairs_in m) v
  unfolding label_for
  label_found m v = found (λ p. p.vlan.0) v.0 (λ p. p.label) (λ ps. label_for ps v) refl (λ p ps. refl) r u m

  pub vlan_found : (m : List ℕ) (l : CampusLabel) → chunks_exact_size s ≡ pair_bytes → chunks_exact_rest s ≡ m → FindsItem chunks_exact_steps g s f r u
      → ((x : Bor (List ℕ)) (b : Bool) (q : F) → CalledAt g f x b q → (q ≡ f) × (b ≡ eqb (pair_read x).label.0 l.0))
      → option_map_or (λ p. Ok p.vlan) (option_map pair_read r) (Err NoPair) ≡ vlan_for (pairs_in m) l
  unfolding vlan_for
  vlan_found m l = found (λ p. p.label.0) l.0 (λ p. p.vlan) (λ ps. vlan_for ps l) refl (λ p ps. refl) r u m
