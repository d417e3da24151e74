-- What a TLV and a payload count: what their pieces do.
-- Assumes nothing.
use Prim.Native.Nat.{ℕ, ◌-◌, ◌<◌, ◌≤◌}
use mathlib.Core.List.{List, [], ◌∷◌, ◌++◌, map, flat_map}
use mathlib.Core.Path.{◌≡◌, refl, sym, ap, ◌∙◌}
use native.Mathlib.Omega.{arith}
use lib.ListN.{length, take, drop, length-drop}
use lib.Seq.{take_all}
use borrow.Author.Tests.{eq-eqb, ne_eqb, le-leb, lt-leb}
use Rattle.numbers.specs.Tests.{pick}
use Rattle.numbers.proofs.Lists.{map-append}
use Rattle.hello.specs.Tlvs.{Tlv, tlv, stump, tlvs}
use Rattle.hello.specs.Pieces.{application, geninfo_head, inside, capability_pieces, geninfo_pieces, tlv_pieces, pieces}
use Rattle.hello.specs.Contents.{malformed}
use Rattle.hello.specs.Reading.{says, items}
use Rattle.hello_judge.specs.declared.Counts.{Counts}
use Rattle.hello_judge.specs.Counting.{walked, nothing, counting, sub_counting, tlv_counting, total, past_empty, refusal_for}
use Rattle.hello_judge.proofs.Laws.{past_same}
use Rattle.numbers.specs.Result.{finished, check}
use Rattle.numbers.specs.declared.refusals.Refusal.TheVariants.{HelloMalformed, ParametersMissing}
use Rattle.std.specs.Prelude.{Err}

walked-append : {S A : Type 0} (f : S → A → S) (s : S) (xs ys : List A) → walked f s (xs ++ ys) ≡ walked f (walked f s xs) ys
unfolding walked
walked-append f s [] ys = refl
walked-append f s (x ∷ xs) ys = walked-append f (f s x) xs ys

sub_level : (h : ℕ) (c : Counts) (ts : List Tlv) → walked counting c (map says (map (inside h) ts)) ≡ walked (sub_counting h) c ts
unfolding walked sub_counting
sub_level h c [] = refl
sub_level h c (t ∷ ts) = sub_level h (counting c (says (inside h t))) ts

tlv_level : (c : Counts) (ts : List Tlv) → walked counting c (map says (flat_map tlv_pieces ts)) ≡ walked tlv_counting c ts
unfolding walked flat_map tlv_counting
tlv_level c [] = refl
tlv_level c (t ∷ ts) =
    ap (walked counting c) (map-append says (tlv_pieces t) (flat_map tlv_pieces ts))
    ∙ walked-append counting c (map says (tlv_pieces t)) (map says (flat_map tlv_pieces ts))
    ∙ tlv_level (walked counting c (map says (tlv_pieces t))) ts

pub payload_level : (l : List ℕ) (r : Counts) → r ≡ walked tlv_counting nothing (tlvs l) → r ≡ walked counting nothing (items l)
unfolding pieces
payload_level l r e = e ∙ sym (tlv_level nothing (tlvs l))

-- ---- a TLV, return by return

-- what is left of a slice, as the code takes it
pub rest_is : (s : ℕ) (v : List ℕ) → take (length v - s) (drop s v) ≡ drop s v
rest_is s v = let d = length-drop s v in take_all (length v - s) (drop s v) (omega arith)

module _ (c : Counts) (v : List ℕ) (r : Counts) where
  pub capability_short : r ≡ counting c malformed → length v < 5 → r ≡ tlv_counting c (tlv 242 v)
  unfolding tlv_counting tlv_pieces capability_pieces pick walked says
  capability_short bad h = rw (lt-leb 5 (length v) h) bad

  pub capability_subs : 5 ≤ length v → (w : List ℕ) → w ≡ drop 5 v → r ≡ walked (sub_counting 242) c (tlvs w) → r ≡ tlv_counting c (tlv 242 v)
  unfolding tlv_counting tlv_pieces capability_pieces pick
  capability_subs h w e f = f ∙ rw (le-leb 5 (length v) h, e) (sym (sub_level 242 c (tlvs (drop 5 v))))

  pub geninfo_short : r ≡ counting c malformed → length v < 3 → r ≡ tlv_counting c (tlv 251 v)
  unfolding tlv_counting tlv_pieces geninfo_pieces pick walked says
  geninfo_short bad h = rw (lt-leb 3 (length v) h) bad

  module _ (room : 3 ≤ length v) (a : ℕ) (ea : a ≡ application v) where
    pub geninfo_skipped : (a ≡ 1 → ⊥) → c ≡ tlv_counting c (tlv 251 v)
    unfolding tlv_counting tlv_pieces geninfo_pieces pick walked says counting
    geninfo_skipped d = rw (le-leb 3 (length v) room, ← ea, ne_eqb a 1 d)

    module _ (one : a ≡ 1) (s : ℕ) (es : s ≡ geninfo_head v) where
      pub geninfo-cut : r ≡ counting c malformed → length v < s → r ≡ tlv_counting c (tlv 251 v)
      unfolding tlv_counting tlv_pieces geninfo_pieces pick walked says
      geninfo-cut bad h = rw (le-leb 3 (length v) room, ← ea, eq-eqb a 1 one, ← es, lt-leb s (length v) h) bad

      pub geninfo_subs : s ≤ length v → (w : List ℕ) → w ≡ drop s v → r ≡ walked (sub_counting 251) c (tlvs w) → r ≡ tlv_counting c (tlv 251 v)
      unfolding tlv_counting tlv_pieces geninfo_pieces pick
      geninfo_subs h w e f = f ∙ rw (le-leb 3 (length v) room, ← ea, eq-eqb a 1 one, ← es, le-leb s (length v) h, e) (sym (sub_level 251 c (tlvs (drop s v))))

module _ (k : ℕ) (c : Counts) (v : List ℕ) where
  pub tlv_skipped : (k ≡ 242 → ⊥) → (k ≡ 251 → ⊥) → c ≡ tlv_counting c (tlv k v)
  unfolding tlv_counting tlv_pieces pick walked says counting
  tlv_skipped d e = rw (ne_eqb k 242 d, ne_eqb k 251 e)

pub tlv_stump : (c r : Counts) → r ≡ counting c malformed → r ≡ tlv_counting c stump
unfolding tlv_counting tlv_pieces walked says
tlv_stump c r e = e

-- ---- the judgement

module _ (c : Counts) where
  pub refused_malformed : 0 < c.malformed → Err HelloMalformed ≡ refusal_for c
  unfolding refusal_for check
  refused_malformed h = rw (le-leb 1 c.malformed h)

  module _ (fine : c.malformed ≤ 0) where
    pub refused_twice : 1 < c.parameters → Err HelloMalformed ≡ refusal_for c
    unfolding refusal_for check
    refused_twice h = rw (lt-leb 1 c.malformed (omega arith), lt-leb c.parameters 1 h)

    pub refused_missing : c.parameters ≤ 1 → c.parameters < 1 → Err ParametersMissing ≡ refusal_for c
    unfolding refusal_for check
    refused_missing g h = rw (lt-leb 1 c.malformed (omega arith), le-leb c.parameters 1 g, lt-leb 1 c.parameters h)

    pub refused_none : c.parameters ≤ 1 → 1 ≤ c.parameters → finished ≡ refusal_for c
    unfolding refusal_for check
    refused_none g h = rw (lt-leb 1 c.malformed (omega arith), le-leb c.parameters 1 g, le-leb 1 c.parameters h)

-- ---- past empty TLVs

empty_free : (c : Counts) (k : ℕ) → (k ≡ 242 → ⊥) → (k ≡ 251 → ⊥) → tlv_counting c (tlv k []) ≡ c
empty_free c k d e = sym (tlv_skipped k c [] d e)

pub next_past : (x c : Counts) (ts us : List Tlv) → us ≡ past_empty ts → x ≡ walked tlv_counting c ts → x ≡ walked tlv_counting c us
next_past x c ts us e inv = inv ∙ past_same tlv_counting empty_free c ts ∙ ap (walked tlv_counting c) (sym e)

pub first_past : (l : List ℕ) (at : ℕ) (c : Counts) → c ≡ nothing → tlvs (drop at l) ≡ past_empty (tlvs (drop 0 l)) → walked tlv_counting nothing (tlvs l) ≡ walked tlv_counting c (tlvs (drop at l))
first_past l at c n e = next_past (walked tlv_counting nothing (tlvs l)) nothing (tlvs l) (tlvs (drop at l)) e refl ∙ rw n

pub none_total : (c : Counts) (at : ℕ) → c ≡ nothing → total c ≤ at
none_total c at e = rw e (omega arith)
