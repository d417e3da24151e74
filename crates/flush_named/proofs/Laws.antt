-- Laws of what a message names: a loop in which the bits and what is left hold every number, and the names of a value and of TLVs.
-- Assumes nothing.
use Prim.Native.Nat.{ℕ, suc, ◌+◌, ◌-◌, ◌*◌, ◌/◌, ◌≤◌, ◌<◌}
use mathlib.Core.Bool.{Bool, true, false, ◌&&◌}
use mathlib.Core.List.{List}
use mathlib.Core.Path.{◌≡◌, refl, sym, ◌∙◌}
use native.Mathlib.Nat.{add-zero, suc-mul, zero-mul, mul-le-mul_right}
use native.Mathlib.Omega.{arith}
use lib.Dec.{leb, eqb}
use lib.ListN.{length, take, drop, get_or, length-drop}
use lib.Seq.{drop-drop, get_or-drop}
use borrow.Author.Tests.{eq-eqb, ne_eqb, le-leb, lt-leb}
use Rattle.numbers.specs.Tests.{pick, both, either, any_of}
use Rattle.numbers.specs.Numberings.{in_blocks, in_list, bit_at, in_map}
use Rattle.numbers.proofs.Truth.{and_both, both_left, both_pass, false_true}
use Rattle.numbers.specs.declared.Numbering.{Numbering}
use Rattle.numbers.proofs.Parts.{parts_end, parts_more}
use Rattle.flush.specs.Payload.{tlv, tlv_end, tlvs}
use Rattle.flush.proofs.Validity.{tlvs_end, tlvs_rest, tlvs_more}
use Rattle.flush_parts.specs.Parts.{span_for, low_for, past_for, hit_for, parts_hit}
use Rattle.flush_parts.specs.Named.{named_in, named_of}
use Rattle.flush_parts.specs.declared.Naming.{Naming}
use Rattle.flush_parts.proofs.Parts.{hit_is, hit_near}
use Rattle.flush_buckets.specs.Buckets.{bucket_bytes, bucket_of, Keeps, Added, HasBits, Names}
use Rattle.flush_buckets.proofs.Laws.{keeps_none, keeps_twice}

-- ---- names

pub names_none : (q : ℕ → Bool) (s : List ℕ) → ((x : ℕ) → q x ≡ false) → Names q s s false
names_none q s h = record { keeps = keeps_none s; each = λ x e. false_true (sym (h x) ∙ e); all = λ e. false_true e }

-- a test that passes fewer numbers
pub names_less : (p q : ℕ → Bool) (s t : List ℕ) (full : Bool) → ((x : ℕ) → q x ≡ true → p x ≡ true) → Names p s t full → Names q s t full
names_less p q s t full h n = record { keeps = n.keeps; each = λ x e. n.each x (h x e); all = n.all }

pub names_same : (p q : ℕ → Bool) (s t : List ℕ) (full : Bool) → ((x : ℕ) → q x ≡ p x) → Names p s t full → Names q s t full
names_same p q s t full h = names_less p q s t full (λ x e. sym (h x) ∙ e)

-- every number was added
pub all_added : (q : ℕ → Bool) (s t : List ℕ) → length s ≡ bucket_bytes → Keeps s t × ((a b : ℕ) → Added a b t) → HasBits q t
all_added q s t long e = record { long = e.0.long ∙ long; each = λ x h. e.1 x (x + 1) x (omega arith) (omega arith) }

-- ---- a loop: a number of the whole has its bit, or is of what is left

pub record Adding (whole left : ℕ → Bool) (s t : List ℕ) : Type 0 where
  pub keeps : Keeps s t
  pub each : (x : ℕ) → whole x ≡ true → either (bit_at (bucket_of x) t) (left x) ≡ true

either_right : (a b : Bool) → b ≡ true → either a b ≡ true
unfolding either
either_right true b e = refl
either_right false b e = e

either_left : (a b : Bool) → b ≡ false → either a b ≡ true → a ≡ true
unfolding either
either_left true b h e = refl
either_left false b h e = sym h ∙ e

module _ (whole : ℕ → Bool) (s : List ℕ) where
  pub adding_start : Adding whole whole s s
  adding_start = record { keeps = keeps_none s; each = λ x e. either_right (bit_at (bucket_of x) s) (whole x) e }

  module _ (left : ℕ → Bool) (t : List ℕ) (g : Adding whole left s t) where
    pub adding_long : length s ≡ bucket_bytes → length t ≡ bucket_bytes
    adding_long h = g.keeps.long ∙ h

    -- nothing is left
    adding_done : ((x : ℕ) → left x ≡ false) → Names whole s t false
    adding_done none = record { keeps = g.keeps; each = λ x e. either_left (bit_at (bucket_of x) t) (left x) (none x) (g.each x e); all = λ e. false_true e }

    module _ (here : ℕ → Bool) (u : List ℕ) (full : Bool) (n : Names here t u full) where
      -- every bit is set
      pub adding_full : full ≡ true → Names whole s u true
      adding_full h = record { keeps = keeps_twice s t u g.keeps n.keeps; each = λ x e. n.all h x; all = λ e. n.all h }

      -- what was left was added, or is left still
      adding_next : (rest : ℕ → Bool) → ((x : ℕ) → left x ≡ either (here x) (rest x)) → Adding whole rest s u
      unfolding either
      adding_next rest cut = record {
        keeps = keeps_twice s t u g.keeps n.keeps;
        each = λ x e. go x (bit_at (bucket_of x) t) refl (here x) refl (rw (cut x) at (g.each x e));
      }
        where
          go : (x : ℕ) (a : Bool) → bit_at (bucket_of x) t ≡ a → (b : Bool) → here x ≡ b → either a (either b (rest x)) ≡ true → either (bit_at (bucket_of x) u) (rest x) ≡ true
          go x true ea b eb e = rw (n.keeps.kept (bucket_of x) ea)
          go x false ea true eb e = rw (n.each x eb)
          go x false ea false eb e = either_right (bit_at (bucket_of x) u) (rest x) e

-- ---- the parts of a value

module _ (t : Bool) (w : Numbering) (v s b : List ℕ) (at : ℕ) (g : Adding (parts_hit t w v) (parts_hit t w (drop at v)) s b) (k : ℕ) (span : k ≡ span_for t w) (some : 0 < k) where
  parts_done : length v - at < k → Names (parts_hit t w v) s b false
  unfolding parts_hit any_of
  parts_done h =
      let d : length (drop at v) ≡ length v - at = length-drop at v in
      adding_done (parts_hit t w v) s (parts_hit t w (drop at v)) b g
      (λ x. rw (parts_end (span_for t w) (omega arith) (drop at v) (omega arith)))

  parts_next : k ≤ length v - at → (m e : ℕ) → m ≡ low_for t w (drop at v) → e ≡ past_for t w (drop at v)
      → (u : List ℕ) (full : Bool) → Names (λ x. both (leb m x) (leb (suc x) e)) b u full → Adding (parts_hit t w v) (parts_hit t w (drop (at + k) v)) s u
  unfolding parts_hit any_of
  parts_next room m e em ee u full n =
      let d : length (drop at v) ≡ length v - at = length-drop at v in
      adding_next (parts_hit t w v) s (parts_hit t w (drop at v)) b g _ u full n (parts_hit t w (drop (at + k) v))
      (λ x. rw (parts_more (span_for t w) (omega arith) (drop at v) (omega arith), hit_near t w x (drop at v) (omega arith), hit_is t w x (drop at v), ← em, ← ee, ← span, drop-drop k at v))

-- ---- the same, by the number of the part

pub part_room : (k n i : ℕ) → i < n / k → i * k + k ≤ n
part_room k n i h = let m : suc i * k ≤ n / k * k = mul-le-mul_right k h in let t = suc-mul i k in omega arith

pub items_start : (t : Bool) (w : Numbering) (v s : List ℕ) (k : ℕ) → Adding (parts_hit t w v) (parts_hit t w (drop (0 * k) v)) s s
items_start t w v s k = rw (zero-mul k) (adding_start (parts_hit t w v) s)

module _ (t : Bool) (w : Numbering) (v s b : List ℕ) (k i : ℕ) (g : Adding (parts_hit t w v) (parts_hit t w (drop (i * k) v)) s b) (span : k ≡ span_for t w) (some : 0 < k) where
  pub items_done : length v / k ≤ i → Names (parts_hit t w v) s b false
  items_done h =
      let m : length v / k * k ≤ i * k = mul-le-mul_right k h in
      parts_done t w v s b (i * k) g k span some (omega arith)

  pub items_next : i < length v / k → (m e : ℕ) → m ≡ low_for t w (drop (i * k) v) → e ≡ past_for t w (drop (i * k) v)
      → (u : List ℕ) (full : Bool) → Names (λ x. both (leb m x) (leb (suc x) e)) b u full → Adding (parts_hit t w v) (parts_hit t w (drop ((i + 1) * k) v)) s u
  items_next h m e em ee u full n =
      let room = part_room k (length v) i h in
      let next : i * k + k ≡ (i + 1) * k = omega arith in
      rw next at (parts_next t w v s b (i * k) g k span some (omega arith) m e em ee u full n)

-- ---- a bit map

module _ (w : Numbering) (v : List ℕ) where
  pub map_none : (s : List ℕ) → length v < w.size → Names (λ x. in_map w x v) s s false
  unfolding in_map
  map_none s h = names_none _ s (λ x. both_left (leb w.size (length v)) _ (lt-leb w.size (length v) h))

  pub map-within : (m e : ℕ) → ((x : ℕ) → in_map w x v ≡ true → m ≤ x) → ((x : ℕ) → in_map w x v ≡ true → x < e)
      → (s t : List ℕ) (full : Bool) → Names (λ x. both (leb m x) (leb (suc x) e)) s t full → Names (λ x. in_map w x v) s t full
  map-within m e low past s t full = names_less _ _ s t full (λ x h. both_pass (leb m x) (leb (suc x) e) (le-leb m x (low x h)) (le-leb (suc x) e (past x h)))

-- ---- a TLV

module _ (d : Naming) (k : ℕ) (v s : List ℕ) where
  module _ (t : List ℕ) (full : Bool) where
    pub value_blocks : k ≡ d.blocks → Names (parts_hit true d.numbering v) s t full → Names (named_in d (tlv k v)) s t full
    unfolding named_in pick parts_hit in_blocks hit_for span_for
    value_blocks h = names_same _ _ s t full (λ x. rw (eq-eqb k d.blocks h))

    pub value_singles : (k ≡ d.blocks → ⊥) → k ≡ d.singles → Names (parts_hit false d.numbering v) s t full → Names (named_in d (tlv k v)) s t full
    unfolding named_in pick parts_hit in_list hit_for span_for
    value_singles b h = names_same _ _ s t full (λ x. rw (ne_eqb k d.blocks b, eq-eqb k d.singles h))

    pub value_map : (k ≡ d.blocks → ⊥) → (k ≡ d.singles → ⊥) → (d.mapped && eqb k d.maps) ≡ true → Names (λ x. in_map d.numbering x v) s t full → Names (named_in d (tlv k v)) s t full
    unfolding named_in pick
    value_map b l h = names_same _ _ s t full (λ x. rw (ne_eqb k d.blocks b, ne_eqb k d.singles l, ← and_both d.mapped (eqb k d.maps), h))

  pub value_other : (k ≡ d.blocks → ⊥) → (k ≡ d.singles → ⊥) → (d.mapped && eqb k d.maps) ≡ false → Names (named_in d (tlv k v)) s s false
  unfolding named_in pick
  value_other b l h = names_none _ s (λ x. rw (ne_eqb k d.blocks b, ne_eqb k d.singles l, ← and_both d.mapped (eqb k d.maps), h))

-- ---- TLVs

names_bits : (q : ℕ → Bool) (s t : List ℕ) (full : Bool) → length s ≡ bucket_bytes → Names q s t full → HasBits q t
names_bits q s t full h n = record { long = n.keeps.long ∙ h; each = n.each }

module _ (d : Naming) (l s b : List ℕ) (at : ℕ) (long : length s ≡ bucket_bytes) (g : Adding (named_of d (tlvs l)) (named_of d (tlvs (drop at l))) s b) where
  pub tlvs_done_lem : length l ≤ at → HasBits (named_of d (tlvs l)) b
  unfolding named_of any_of
  tlvs_done_lem h =
      let z : length (drop at l) ≡ length l - at = length-drop at l in
      names_bits _ s b false long (adding_done _ s _ b g (λ x. rw (tlvs_end (drop at l) (omega arith))))

  module _ (more : at < length l) (e : ℕ) (end : e ≡ at + tlv_end (drop at l)) where
    pub tlvs-cut : length l < e → HasBits (named_of d (tlvs l)) b
    unfolding named_of any_of named_in either
    tlvs-cut h =
        let z : length (drop at l) ≡ length l - at = length-drop at l in
        names_bits _ s b false long (adding_done _ s _ b g (λ x. rw (tlvs_rest (λ p. named_in d p x) refl (drop at l) (omega arith))))

    module _ (u : List ℕ) (full : Bool) (n : Names (named_in d (tlv (get_or l at 0) (take (e - (at + 2)) (drop (at + 2) l)))) b u full) where
      pub tlvs_full : full ≡ true → HasBits (named_of d (tlvs l)) u
      tlvs_full h = names_bits _ s u true long (adding_full _ s _ b g _ u full n h)

      pub tlvs_next : e ≤ length l → Adding (named_of d (tlvs l)) (named_of d (tlvs (drop e l))) s u
      unfolding named_of any_of
      tlvs_next fits =
          let y : length (drop at l) ≡ length l - at = length-drop at l in
          let f : get_or (drop at l) 0 0 ≡ get_or l at 0 = get_or-drop at l 0 0 ∙ rw (add-zero at) in
          let z : e - (at + 2) ≡ get_or (drop at l) 1 0 = omega arith in
          adding_next _ s _ b g _ u full n _
          (λ x. rw (tlvs_more (drop at l) (omega arith)) (rw (f, drop-drop 2 at l, drop-drop (tlv_end (drop at l)) at l, ← end, ← z)))
