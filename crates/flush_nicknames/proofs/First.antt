-- Laws of the first pass: each test looks at the slot's own bytes only, the ways through the code that tests a slot, the search for the
-- first nickname, and that the code's test is the definition's.
-- Assumes nothing.
use Rattle.std.specs.Prelude as prelude
use Prim.Native.Nat.{ℕ, ◌+◌, ◌-◌, ◌*◌, ◌/◌, ◌%◌, ◌^◌, ◌<◌, ◌≤◌}
use mathlib.Core.Bool.{Bool, true, false, not, ◌&&◌, ◌||◌}
use mathlib.Core.List.{List, [], ◌∷◌}
use mathlib.Core.Path.{◌≡◌, refl, sym, ap, ◌∙◌}
use native.Mathlib.Decide.{dec_lt, ℕ_discrete}
use native.Mathlib.Nat.{mod-eq_of_lt}
use native.Mathlib.Omega.{arith}
use lib.Bits.{bit_or}
use lib.Dec.{eqb}
use lib.ListN.{length, take, drop, get_or, set, replicate, length-replicate}
use borrow.Author.Tests.{eq-eqb, ne_eqb, eqb-true, eqb-false, not-true}
use Rattle.numbers.specs.Tests.{pick, both, either, any_of}
use Rattle.numbers.specs.Bytes.{num}
use Rattle.numbers.specs.Numberings.{bit_at}
use Rattle.numbers.specs.Ranges.{vlan_good}
use Rattle.numbers.proofs.Truth.{both_left, both_right, both_true, between_is, or_either, either_neither, false_true, either_passes, and_true}
use Rattle.table.specs.Record.{record_of, state_of, kind_of, label_of, nickname_of, learned_state, label_from, label_good, entry_of, entry_good, unpacked, is_learned}
use Rattle.table.specs.Slots.{slot_bytes, most_slots, slot_at}
use Rattle.table.specs.declared.Label.TheVariants.{Fine}
use Rattle.table.proofs.Slots.{Local}
use Rattle.table.proofs.Contents.{record_near, unpacked_near, learned_is, learned_parts}
use Rattle.flush.specs.Payload.{every_type, Piece, tlv, block, stump, tlvs, pieces_of}
use Rattle.flush.specs.Meaning.{fine_in, brings_label, nickname_meant, label_meant}
use Rattle.flush_sets.specs.Gains.{Gains, None, in_nicknames}
use Rattle.flush_sets.proofs.Adding.{single-listed}
use Rattle.flush_payload.specs.Judging.{every_kind, of_kind}
use Rattle.flush_payload.specs.declared.Kinds.{Kinds}
use Rattle.flush_payload.proofs.Laws.{none_brought}
use Rattle.flush_parts.specs.Named.{fine_naming, named_in, named_of}
use Rattle.flush_buckets.specs.Buckets.{bucket_bytes, bucket_of, HasBits}
use Rattle.flush_vlans.specs.Vlans.{vlan_bytes, VlansNoted, VlansMeant}
use Rattle.flush_vlans.proofs.Laws.{every_meant, added_none, set_named}
use Rattle.flush_bits.specs.Ranged.{mask_of, Ranged}
use Rattle.flush_bits.proofs.Laws.{every, every_at, part_added}
use Rattle.flush_marks.specs.Marks.{mark_bytes, NoMarks, Chosen}
use Rattle.flush_marks.specs.Filters.{slot_named}
use Rattle.flush_marks.proofs.Bits.{both-all, zeros_none}
use Rattle.flush_marks.proofs.Filters.{chosen_same}
use Rattle.flush_nicknames.specs.First.{round_slots, NoneOfRound, NicknamesAre, EveryMeant, kind_meant, slot_first, near_bit, may_pass, label_part, slot_marked, slot_names, fine_noted, FirstNamed, FirstPass}
use Rattle.std.specs.Prelude.{Some}

-- ---- a slot's own bytes

pub names_near : (p : ℕ → Bool) → Local (slot_names p)
unfolding slot_names
names_near p x = rw (record_near x)

pub marked_near : (p : ℕ → Bool) (vlans : List ℕ) (near : ℕ → Bool) → Local (slot_marked p vlans near)
unfolding slot_marked slot_named label_part
marked_near p vlans near x = rw (unpacked_near x, record_near x)

-- ---- the ways through the test of a slot

-- where there are no filter bits, and where there are
pub no_bits : (bits : List ℕ) (x : ℕ) → (length bits ≡ bucket_bytes → ⊥) → false ≡ near_bit bits x
unfolding near_bit
no_bits bits x h = sym (both_left _ _ (ne_eqb (length bits) bucket_bytes h))

pub by_bit : (bits : List ℕ) (x : ℕ) → length bits ≡ bucket_bytes → (b : Bool) → b ≡ bit_at (bucket_of x) bits → b ≡ near_bit bits x
unfolding near_bit both
by_bit bits x h b e = rw (eq-eqb (length bits) bucket_bytes h) e

-- the test of a fine-grained label where not every one is meant
by_near : (every : Bool) → every ≡ false → (bits : List ℕ) (x : ℕ) → may_pass every bits x ≡ near_bit bits x
unfolding may_pass either
by_near every e bits x = rw e

by_every : (every : Bool) → every ≡ true → (bits : List ℕ) (x : ℕ) → may_pass every bits x ≡ true
unfolding may_pass either
by_every every e bits x = rw e

module _ (vlans : List ℕ) (near : ℕ → Bool) (r : List ℕ) where
  part_case : (v : Bool) → v ≡ eqb (kind_of (record_of r)) 0 → (h : Bool) → h ≡ bit_at (label_of (record_of r) % 4096) vlans → (g : Bool) → g ≡ near (label_of (record_of r)) → (v && h) || (not v && g) ≡ label_part vlans near r
  unfolding label_part pick
  part_case true e true q g i = rw (← e, ← q)
  part_case true e false q g i = rw (← e, ← q)
  part_case false e h q g i = rw (← e) i

  pub part_told : (k : ℕ) → k ≡ kind_of (record_of r) → (x : ℕ) → x ≡ label_of (record_of r) → (h : Bool) → h ≡ bit_at (x % 4096) vlans → (g : Bool) → g ≡ near x → (eqb k 0 && h) || (not (eqb k 0) && g) ≡ label_part vlans near r
  part_told k e x f h i g j = part_case (eqb k 0) (rw e) h (i ∙ rw f) g (j ∙ ap near f)

  part_all : ((x : ℕ) → x < 2 ^ 12 → bit_at x vlans ≡ true) → ((x : ℕ) → near x ≡ true) → true ≡ label_part vlans near r
  unfolding label_part pick
  part_all all each = go (eqb (kind_of (record_of r)) 0)
    where
      go : (b : Bool) → true ≡ pick b (bit_at (label_of (record_of r) % 2 ^ 12) vlans) (near (label_of (record_of r)))
      go true = sym (all (label_of (record_of r) % 2 ^ 12) (omega arith))
      go false = sym (each (label_of (record_of r)))

  module _ (p : ℕ → Bool) where
    other_nickname : p (nickname_of (record_of r)) ≡ false → false ≡ slot_marked p vlans near r
    unfolding slot_marked slot_named
    other_nickname h = sym (both_left _ _ (both_right (is_learned (unpacked r)) _ h))

    -- another byte of the nickname
    pub ruled_out : (b : Bool) → (b ≡ true → slot_names p r ≡ false) → b ≡ true → false ≡ slot_marked p vlans near r
    unfolding slot_names
    ruled_out b none e = other_nickname (none e)

    pub other_label_lem : (a : Bool) → a ≡ label_part vlans near r → a ≡ false → false ≡ slot_marked p vlans near r
    unfolding slot_marked
    other_label_lem a e h = sym (both_right (slot_named p r) _ (sym e ∙ h))

    -- another nickname, or one that passes
    module _ (x : ℕ) (field : x ≡ nickname_of (record_of r)) (c : Bool) (told : c ≡ p x) where
      here : p (nickname_of (record_of r)) ≡ c
      here = sym (told ∙ ap p field)

      pub not_passed : c ≡ false → false ≡ slot_marked p vlans near r
      not_passed h = other_nickname (here ∙ h)

      pub by_passed : c ≡ true → (a : Bool) → a ≡ label_part vlans near r → a ≡ true → (b : Bool) → b ≡ is_learned (unpacked r) → b ≡ slot_marked p vlans near r
      unfolding slot_marked slot_named
      by_passed h a e t b f = f ∙ rw (here ∙ h, ← e, t) (sym (both-all (both (is_learned (unpacked r)) true) ∙ both-all (is_learned (unpacked r))))

-- the label by the tests of the code
pub part_bits : (vlans bits r : List ℕ) (k : ℕ) → k ≡ kind_of (record_of r) → (x : ℕ) → x ≡ label_of (record_of r) → (h : Bool) → h ≡ bit_at (x % 4096) vlans → (g : Bool) → g ≡ near_bit bits x → (eqb k 0 && h) || (not (eqb k 0) && g) ≡ label_part vlans (may_pass false bits) r
part_bits vlans bits r k a x b h c g d = part_told vlans (may_pass false bits) r k a x b h c g (d ∙ sym (by_near false refl bits x))

-- and where no fine-grained label is named
or_none : (a h g : Bool) → g ≡ false → a && h ≡ (a && h) || (not a && g)
or_none true true g e = refl
or_none true false g e = refl
or_none false h g e = sym e

module _ (every : Bool) (vlans : List ℕ) (told : EveryMeant every vlans) (r : List ℕ) where
  pub plain_every : every ≡ true → true ≡ label_part vlans (λ x. every) r
  plain_every e = part_all vlans (λ x. every) r (told.all e) (λ x. e)

  pub plain_vlans : every ≡ false → (k : ℕ) → k ≡ kind_of (record_of r) → (x : ℕ) → x ≡ label_of (record_of r) → (h : Bool) → h ≡ bit_at (x % 4096) vlans → eqb k 0 && h ≡ label_part vlans (λ x. every) r
  plain_vlans e k a x b h c = or_none (eqb k 0) h every e ∙ part_told vlans (λ x. every) r k a x b h c every refl

-- and where fine-grained labels alone are named
and_fine : (a g : Bool) → not a && g ≡ (a && false) || (not a && g)
and_fine true g = refl
and_fine false g = refl

pub part_fine : (bits r : List ℕ) (k : ℕ) → k ≡ kind_of (record_of r) → (x : ℕ) → x ≡ label_of (record_of r) → (g : Bool) → g ≡ near_bit bits x → not (eqb k 0) && g ≡ label_part [] (may_pass false bits) r
part_fine bits r k a x b g d = and_fine (eqb k 0) g ∙ part_told [] (may_pass false bits) r k a x b false (sym (zeros_none 0 (x % 4096))) g (d ∙ sym (by_near false refl bits x))

-- ---- the search for the first nickname

module _ (r : List ℕ) where
  -- another byte of one nickname, or no nickname of a byte of a set
  pub middle_out : (one m : ℕ) → m ≡ nickname_of (record_of r) / 2 ^ 3 % 2 ^ 8 → not (eqb m (one / 8 % 256)) ≡ true → slot_names (λ x. eqb x one) r ≡ false
  unfolding slot_names
  middle_out one m field h = ne_eqb (nickname_of (record_of r)) one (λ e. eqb-false m (one / 8 % 256) (not-true _ h) (field ∙ ap (λ (x : ℕ). x / 8 % 256) e))

  pub byte_out : (names : List ℕ) (h : ℕ) → h ≡ nickname_of (record_of r) / 2 ^ 3 → (b : Bool) → (b ≡ true → (x : ℕ) → h ≡ x / 8 → bit_at x names ≡ false) → b ≡ true → slot_names (λ x. bit_at x names) r ≡ false
  unfolding slot_names
  byte_out names h field b none e = none e (nickname_of (record_of r)) field

  pub names_it : (p : ℕ → Bool) (x : ℕ) → x ≡ nickname_of (record_of r) → (c : Bool) → c ≡ p x → c ≡ slot_names p r
  unfolding slot_names
  names_it p x field c told = told ∙ ap p field

module _ (p : ℕ → Bool) (t : List ℕ) (from e : ℕ) where
  module _ (k : ℕ) (so_far : FirstNamed p t from e k) where
    pub first_next : k < e → (b : Bool) → b ≡ slot_names p (drop (slot_bytes * k) t) → b ≡ false → FirstNamed p t from e (k + 1)
    first_next h b here miss = let f = so_far.behind in record { behind = omega arith; within = omega arith; none = λ j a l. go j a l (ℕ_discrete j k) }
      where
        go : (j : ℕ) → from ≤ j → j < k + 1 → Dec (j ≡ k) → slot_names p (slot_at j t) ≡ false
        go j a l (yes q) = rw q (names_near p (drop (slot_bytes * k) t) ∙ sym here ∙ miss)
        go j a l (no d) = so_far.none j a (omega arith)

    -- a round that is passed by
    pub first_round : k + round_slots ≤ e → NoneOfRound p t k → FirstNamed p t from e (k + round_slots)
    first_round h f = let b = so_far.behind in record { behind = omega arith; within = omega arith; none = λ j a l. go j a l (ℕ_discrete j k) (ℕ_discrete j (k + 1)) (ℕ_discrete j (k + 2)) (ℕ_discrete j (k + 3)) }
      where
        go : (j : ℕ) → from ≤ j → j < k + round_slots → Dec (j ≡ k) → Dec (j ≡ k + 1) → Dec (j ≡ k + 2) → Dec (j ≡ k + 3) → slot_names p (slot_at j t) ≡ false
        go j a l (yes q) y z w = rw q (names_near p (drop (slot_bytes * k) t) ∙ f.first)
        go j a l (no x) (yes q) z w = rw q (names_near p (drop (slot_bytes * (k + 1)) t) ∙ f.second)
        go j a l (no x) (no y) (yes q) w = rw q (names_near p (drop (slot_bytes * (k + 2)) t) ∙ f.third)
        go j a l (no x) (no y) (no z) (yes q) = rw q (names_near p (drop (slot_bytes * (k + 3)) t) ∙ f.fourth)
        go j a l (no x) (no y) (no z) (no w) = so_far.none j a (omega arith)

-- ---- the nicknames meant

pub one_ingress : (ingress : ℕ) (nicks : List ℕ) → length nicks ≡ 0 → NicknamesAre ingress nicks (Some ingress)
unfolding nickname_meant pick
one_ingress ingress nicks h = record { one = λ y e x. let same : ingress ≡ y = cc in rw (eq-eqb (length nicks) 0 h, same); several = λ e x. let z : ◌≡◌ {A = ℕ} 0 1 = cc in absurd (omega arith) }

pub one-listed : (ingress : ℕ) (nicks : List ℕ) → length nicks ≡ 2 → (n : ℕ) → n ≡ num (take 2 (drop 0 nicks)) → n < 2 ^ 16 → NicknamesAre ingress nicks (Some n)
one-listed ingress nicks h n e few = record { one = λ y f x. let same : n ≡ y = cc in rw (← same) (single-listed ingress nicks h n e few x); several = λ e x. let z : ◌≡◌ {A = ℕ} 0 1 = cc in absurd (omega arith) }

pub several_listed : (ingress : ℕ) (nicks : List ℕ) → (length nicks ≡ 0 → ⊥) → NicknamesAre ingress nicks prelude.None
unfolding nickname_meant pick in_nicknames
several_listed ingress nicks h = record { one = λ y f x. let z : ◌≡◌ {A = ℕ} 0 1 = cc in absurd (omega arith); several = λ e x. rw (ne_eqb (length nicks) 0 h) }

-- ---- the code's test is the definition's

learned_vlan : (n : ℕ) → both (eqb (state_of n) learned_state) (entry_good (entry_of n)) ≡ true → kind_of n ≡ 0 → label_of n < 4096
unfolding entry_good entry_of label_from pick vlan_good
learned_vlan n e h =
    let good = (both_true (eqb (state_of n) learned_state) (entry_good (entry_of n)) e).1 in
    let label = (both_true (label_good (label_from (kind_of n) (label_of n))) _ good).0 in
    let vlan : vlan_good (label_of n) ≡ true = rw (eq-eqb (kind_of n) 0 h) at label in
    let b = between_is _ _ (label_of n) vlan in
    omega arith

module _ (ps : List Piece) (vlans : List ℕ) (told : VlansMeant ps vlans) (near : ℕ → Bool) (r : List ℕ) where
  same_label_lem : is_learned (unpacked r) ≡ true → (b : Bool) → eqb (kind_of (record_of r)) 0 ≡ b → label_part vlans near r ≡ kind_meant ps near r
  unfolding label_part kind_meant pick
  same_label_lem l true e =
      let few = learned_vlan (record_of r) (sym (learned_is (record_of r)) ∙ (learned_parts r l).0) (eqb-true (kind_of (record_of r)) 0 e) in
      rw (e, mod-eq_of_lt few) (told.each (label_of (record_of r)) few)
  same_label_lem l false e = rw e

  first_case : (p : ℕ → Bool) (b : Bool) → is_learned (unpacked r) ≡ b → slot_marked p vlans near r ≡ slot_first p ps near r
  unfolding slot_marked slot_first slot_named both
  first_case p true h = rw (h, same_label_lem h _ refl)
  first_case p false h = rw h

first_chosen : (p : ℕ → Bool) (ps : List Piece) (near : ℕ → Bool) (t : List ℕ) (from count : ℕ) (vlans : List ℕ) → VlansMeant ps vlans → (m : List ℕ) → Chosen (slot_marked p vlans near) from count t m → Chosen (slot_first p ps near) from count t m
first_chosen p ps near t from count vlans told m c = chosen_same _ _ from count t m (λ r. first_case ps vlans told near r p _ refl) c

-- the slots before the first with a nickname are none that the pass would mark
module _ (p q : ℕ → Bool) (same : (x : ℕ) → x < 2 ^ 16 → p x ≡ q x) (ps : List Piece) (fine : Bool) (t : List ℕ) (from count k : ℕ) (first : FirstNamed p t from (from + count) k) (m : List ℕ) where
  named_same : (near : ℕ → Bool) (r : List ℕ) → slot_first p ps near r ≡ slot_first q ps near r
  unfolding slot_first slot_named
  named_same near r = rw (same (nickname_of (record_of r)) (omega arith))

  not_named : (near : ℕ → Bool) (r : List ℕ) → slot_names p r ≡ false → slot_first q ps near r ≡ false
  unfolding slot_names slot_first slot_named
  not_named near r e = both_left _ _ (both_right (is_learned (unpacked r)) _ (sym (same (nickname_of (record_of r)) (omega arith)) ∙ e))

  pub passed_first : FirstPass p ps fine k (from + count - k) t m → FirstPass q ps fine from count t m
  passed_first c =
      let a = first.behind in
      let b = first.within in
      record {
        near = c.near;
        chosen = record {
          long = c.chosen.long;
          inside = λ j l h. go j l h (dec_lt j k);
          below = λ j l. c.chosen.below j (omega arith);
          above = λ j l h. c.chosen.above j (omega arith) h;
        };
        all = c.all;
        none = c.none;
      }
    where
      go : (j : ℕ) → from ≤ j → j < from + count → Dec (j < k) → bit_at j m ≡ slot_first q ps c.near (slot_at j t)
      go j l h (yes s) = c.chosen.below j s ∙ sym (not_named c.near (slot_at j t) (first.none j l s))
      go j l h (no s) =
          let b = first.within in
          c.chosen.inside j (omega arith) (omega arith) ∙ named_same c.near (slot_at j t)

-- ---- which fine-grained labels may be meant

-- a piece that brings a label and does not mean every one names it
piece_named : (x : ℕ) (p : Piece) → of_kind every_type every_kind p ≡ false → brings_label every_type (Fine x) p ≡ true → named_in fine_naming p x ≡ true
unfolding of_kind brings_label fine_in named_in both pick
piece_named x (tlv k v) e h = rw e at h
piece_named x (block b) e h = h
piece_named x stump e h = h

some_named : (x : ℕ) (ps : List Piece) → any_of (of_kind every_type every_kind) ps ≡ false → any_of (brings_label every_type (Fine x)) ps ≡ true → named_of fine_naming ps x ≡ true
unfolding any_of named_of
some_named x [] e h = h
some_named x (p ∷ ps) e h =
    let n = either_neither (of_kind every_type every_kind p) (any_of (of_kind every_type every_kind) ps) e in
    either_passes (brings_label every_type (Fine x) p) (any_of (brings_label every_type (Fine x)) ps) (named_in fine_naming p x) (any_of (λ p. named_in fine_naming p x) ps) (piece_named x p n.0) (some_named x ps n.1) h

block_fine : (x : ℕ) (b : List ℕ) → brings_label every_type (Fine x) (block b) ≡ false
unfolding brings_label
block_fine x b = refl

-- no VLAN is in an empty set, whatever its length
empty_none : (x : ℕ) → bit_at x [] ≡ false
empty_none x = zeros_none 0 x

same_none : (p near : ℕ → Bool) (r : List ℕ) → slot_marked p [] near r ≡ slot_marked p (replicate {A = ℕ} vlan_bytes 0) near r
unfolding slot_marked label_part
same_none p near r = rw (empty_none (label_of (record_of r) % 2 ^ 12), zeros_none vlan_bytes (label_of (record_of r) % 2 ^ 12))

module _ (n : ℕ) (l : List ℕ) (f : Kinds) (noted : VlansNoted (pieces_of n l) f) where
  pieces-tlvs : n ≡ 0 → pieces_of n l ≡ tlvs l
  unfolding pieces_of pick
  pieces-tlvs z = rw (eq-eqb n 0 z)

  -- each label that is meant has its bit; VLAN blocks mean none
  meant_bit : f.every ≡ false → (bits : List ℕ) → HasBits (named_of fine_naming (tlvs l)) bits → (x : ℕ) → label_meant every_type (pieces_of n l) (Fine x) ≡ true → may_pass false bits x ≡ true
  unfolding may_pass near_bit either both label_meant
  meant_bit e bits has x h = go (ℕ_discrete n 0)
    where
      go : Dec (n ≡ 0) → may_pass false bits x ≡ true
      go (yes z) = rw (eq-eqb (length bits) bucket_bytes has.long) (has.each x (rw (pieces-tlvs z) at (some_named x (pieces_of n l) (sym noted.every ∙ e) h)))
      go (no d) = false_true (none_brought (brings_label every_type (Fine x)) n l d (block_fine x) ∙ h)

  module _ (p : ℕ → Bool) (t : List ℕ) (from count : ℕ) where
    -- where no slot is left nothing is marked
    pub none_first : count ≡ 0 → (m : List ℕ) → NoMarks m → FirstPass p (pieces_of n l) (fine_noted f) from count t m
    none_first h m e = record {
      near = λ x. fine_noted f;
      chosen = record { long = e.long; inside = λ j a b. absurd (omega arith); below = λ j a. e.none j; above = λ j a b. e.none j };
      all = λ a x b. a;
      none = λ a x. a;
    }

    module _ (vlans : List ℕ) (told : VlansMeant (pieces_of n l) vlans) (m : List ℕ) where
      -- else they are marked by filter bits
      pub near_first : not f.every && (f.lists || f.maps) ≡ true → (bits : List ℕ) → HasBits (named_of fine_naming (tlvs l)) bits → Chosen (slot_marked p vlans (may_pass false bits)) from count t m → FirstPass p (pieces_of n l) (fine_noted f) from count t m
      unfolding either
      near_first e bits has c = go f.every refl
        where
          go : (b : Bool) → f.every ≡ b → FirstPass p (pieces_of n l) (fine_noted f) from count t m
          go true g = false_true (rw g at e)
          go false g =
              let some : f.lists || f.maps ≡ true = rw g at e in
              record {
                near = may_pass false bits;
                chosen = first_chosen p (pieces_of n l) (may_pass false bits) t from count vlans told m c;
                all = λ a x b. meant_bit g bits has x b;
                none = λ a x. false_true (sym (rw (g, ← or_either f.lists f.maps) at a) ∙ some);
              }

      -- or every label is meant, or none is noted
      flagged : not f.every && (f.lists || f.maps) ≡ false → (b : Bool) → f.every ≡ b → fine_noted f ≡ true → f.every ≡ true
      unfolding either
      flagged e true g a = g
      flagged e false g a = false_true (sym (rw g at e) ∙ or_either f.lists f.maps ∙ rw g at a)

      pub plain_first : not f.every && (f.lists || f.maps) ≡ false → Chosen (slot_marked p vlans (λ x. f.every)) from count t m → FirstPass p (pieces_of n l) (fine_noted f) from count t m
      plain_first e c = record {
        near = λ x. f.every;
        chosen = first_chosen p (pieces_of n l) (λ x. f.every) t from count vlans told m c;
        all = λ a x b. flagged e f.every refl a;
        none = λ a x. (either_neither f.every (either f.lists f.maps) a).0;
      }

    -- or by filter bits alone, since no VLAN is named
    pub fine_first : (m : List ℕ) → not f.every && (f.lists || f.maps) ≡ true → eqb n 0 && not f.vlans ≡ true → (bits : List ℕ) → HasBits (named_of fine_naming (tlvs l)) bits → Chosen (slot_marked p [] (may_pass false bits)) from count t m → FirstPass p (pieces_of n l) (fine_noted f) from count t m
    fine_first m e none bits has c =
        let every-not = (and_true (not f.every) _ e).0 in
        let parts = and_true (eqb n 0) (not f.vlans) none in
        let zeros : List ℕ = replicate {A = ℕ} vlan_bytes 0 in
        let told : VlansMeant (pieces_of n l) zeros =
        set_named n l f noted zeros (length-replicate {A = ℕ} vlan_bytes 0) (zeros_none vlan_bytes) (not-true f.every every-not) zeros (added_none n l f noted zeros (eqb-true n 0 parts.0) (not-true f.vlans parts.1))
        in
        near_first zeros told m e bits has (chosen_same _ _ from count t m (same_none p (may_pass false bits)) c)

-- the set of VLANs of a message that means every label
pub every_passes : (ps : List Piece) (f : Kinds) → VlansNoted ps f → (vlans : List ℕ) → VlansMeant ps vlans → EveryMeant f.every vlans
every_passes ps f noted vlans told = record { long = told.long; all = λ e x few. told.each x few ∙ every_meant ps f noted e x }

-- the nicknames of a list as a set
pub listed_same : (nicks s t : List ℕ) → None s → Gains s t (in_nicknames nicks) → (x : ℕ) → bit_at x t ≡ in_nicknames nicks x
unfolding either
listed_same nicks s t none g x = g.each x ∙ rw (none x)

-- ---- one mark

one_computed : every 8 (λ i. eqb (128 / 2 ^ i) (mask_of i (i + 1))) ≡ true
unfolding both mask_of
one_computed = refl

pub mark_added : (s : List ℕ) (k : ℕ) → length s ≡ mark_bytes → k < most_slots → (b : ℕ) → b ≡ 128 / 2 ^ (k % 8) → (t : List ℕ) → t ≡ set s (k / 8) (bit_or (get_or s (k / 8) 0) b) → Ranged s t k (k + 1)
mark_added s k long few b e t f =
    let last : k + 1 - k / 8 * 8 ≡ k % 8 + 1 = omega arith in
    let mask : 128 / 2 ^ (k % 8) ≡ mask_of (k % 8) (k % 8 + 1) = eqb-true _ _ (every_at 8 (λ i. eqb (128 / 2 ^ i) (mask_of i (i + 1))) one_computed (k % 8) (omega arith)) in
    part_added s k (k + 1) (omega arith) (omega arith) (omega arith) b (e ∙ mask ∙ ap (mask_of (k % 8)) (sym last)) t f
