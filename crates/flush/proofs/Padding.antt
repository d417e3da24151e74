-- A payload with zero bytes after it: its front and its VLAN blocks are where they were, its TLVs too; what follows them is TLVs of type 0
-- and length 0, which bring nothing, and in the end perhaps a lone zero, which is padding. So each test of the pieces answers the same,
-- and the same records are meant.
-- Assumes nothing.
use Prim.Native.Nat.{ℕ, zero, suc, ◌+◌, ◌-◌, ◌*◌, ◌<◌, ◌≤◌}
use mathlib.Core.Bool.{Bool, true, false, not}
use mathlib.Core.List.{List, [], ◌∷◌, ◌++◌, map}
use mathlib.Core.Path.{◌≡◌, refl, sym, ap, subst, fun_ext, ◌∙◌}
use native.Mathlib.Decide.{ℕ_discrete, dec_lt}
use native.Mathlib.Omega.{arith}
use lib.Dec.{leb, eqb}
use lib.ListN.{length, take, drop, get_or, length-append, length-drop, get_or-append}
use lib.Seq.{take-append-le, drop-append-le}
use borrow.Author.Tests.{leb-true, le-leb, eq-eqb, ne_eqb, not-true}
use Rattle.numbers.specs.Tests.{pick, both, either, any_of}
use Rattle.numbers.specs.Bytes.{parts}
use Rattle.numbers.specs.Result.{and_then}
use Rattle.numbers.proofs.Truth.{both_right, pick_true, pick_false, false_true}
use Rattle.numbers.proofs.Answers.{got_got, check_got, check_pass}
use Rattle.table.specs.Record.{unpacked}
use Rattle.table.specs.declared.Label.{Label}
use Rattle.table.specs.declared.Label.TheVariants.{Vlan, Fine}
use Rattle.table.specs.declared.Slot.{Slot}
use Rattle.table.specs.declared.Slot.TheVariants.{Free, Spoilt, Learned, Configured}
use Rattle.flush.specs.Payload.{Types, every_type, Piece, tlv, block, stump, tlv_type, tlv_length, tlv_end, tlv_first, tlvs, length_good, corrupt, nick_bytes, block_count, behind, block_bytes, pieces_of, Payload, made, payload_of}
use Rattle.flush.specs.Meaning.{vlan_in, fine_in, mac_in, some_mac_in, brings_label, brings_mac, gathers_mac, nickname_meant, label_meant, mac_meant, entry_meant}
use Rattle.flush.specs.Flush.{held_meant, slot_meant, cleared_by, clearing, flushed}
use Rattle.flush.specs.Padding.{zeros, padded, SameSets, Padded, PaddedFlush}
use Rattle.flush.proofs.Validity.{tlvs_end, tlvs_padding, tlvs_lone, tlvs_stump, tlvs_more, false_not}
use Rattle.std.specs.Prelude.{Ok}

-- ---- TLVs and zeros after them

-- a TLV of type 0 and length 0
abbrev nil : Piece
nil = tlv 0 []

module _ (ask : Piece → Bool) (none : ask nil ≡ false) where
  any_first : (x : Piece) (xs : List Piece) (l : List ℕ) → tlvs l ≡ x ∷ xs → any_of ask (tlvs l) ≡ either (ask x) (any_of ask xs)
  unfolding any_of
  any_first x xs l e = rw e

  any-zeros : (n : ℕ) → any_of ask (tlvs (zeros n)) ≡ false
  unfolding zeros any_of either
  any-zeros zero = rw (tlvs_end (zeros 0) (omega arith))
  any-zeros (suc zero) = rw (tlvs_padding (zeros 1) refl refl)
  any-zeros (suc (suc n)) = any_first nil (tlvs (zeros n)) (zeros (suc (suc n))) (tlvs_more (zeros (suc (suc n))) (omega arith)) ∙ rw none (any-zeros n)

either_second : (a b : Bool) → either a b ≡ false → b ≡ false
unfolding either
either_second true b h = false_true (sym h)
either_second false b h = h

-- bytes after a whole TLV
module _ (l z : List ℕ) (whole : tlv_end l ≤ length l) where
  same_end : tlv_end (l ++ z) ≡ tlv_end l
  same_end = ap (λ (n : ℕ). 2 + n) (get_or-append l z 0 1 (omega arith))

  same_first : tlv_first (l ++ z) ≡ tlv_first l
  same_first =
      let n : tlv_length (l ++ z) ≡ tlv_length l = get_or-append l z 0 1 (omega arith) in
      let k : tlv_type (l ++ z) ≡ tlv_type l = get_or-append l z 0 0 (omega arith) in
      let d : drop 2 (l ++ z) ≡ drop 2 l ++ z = drop-append-le 2 l z (omega arith) in
      let r : length (drop 2 l) ≡ length l - 2 = length-drop 2 l in
      rw (k, n, d, take-append-le (tlv_length l) (drop 2 l) z (omega arith))

  same_cut : tlvs (l ++ z) ≡ tlv_first l ∷ tlvs (drop (tlv_end l) l ++ z)
  same_cut =
      let e = same_end in
      let long : length (l ++ z) ≡ length l + length z = length-append l z in
      tlvs_more (l ++ z) (omega arith) ∙ rw (same_first, same_end, drop-append-le (tlv_end l) l z whole)

module _ (types : Types) (ask : Piece → Bool) (none : ask nil ≡ false) (n : ℕ) where
  -- a lone zero and n zeros are n + 1
  lone_zeros : (l : List ℕ) → length l ≡ 1 → tlv_type l ≡ 0 → l ++ zeros n ≡ zeros (suc n)
  unfolding zeros
  lone_zeros [] h z = absurd (omega arith)
  lone_zeros (x ∷ []) h z = rw z
  lone_zeros (x ∷ (y ∷ r)) h z = absurd (omega arith)

  no_bytes : (l : List ℕ) → length l ≤ 0 → l ≡ []
  no_bytes [] h = refl
  no_bytes (x ∷ r) h = absurd (omega arith)

  stump_corrupt : {C : Type 0} (l : List ℕ) → tlvs l ≡ stump ∷ [] → any_of (corrupt types) (tlvs l) ≡ false → C
  unfolding any_of either corrupt
  stump_corrupt l e h = false_true (sym (rw e at h))

  -- of TLVs that are whole the others are whole
  others_whole : (l : List ℕ) (x : Piece) (xs : List Piece) → tlvs l ≡ x ∷ xs → any_of (corrupt types) (tlvs l) ≡ false → any_of (corrupt types) xs ≡ false
  unfolding any_of
  others_whole l x xs e h = either_second (corrupt types x) (any_of (corrupt types) xs) (rw e at h)

  -- no whole TLV is left
  end_padded : (l : List ℕ) → length l < tlv_end l → any_of (corrupt types) (tlvs l) ≡ false → any_of ask (tlvs (l ++ zeros n)) ≡ any_of ask (tlvs l)
  unfolding any_of
  end_padded l s good = go (dec_lt 1 (length l)) (ℕ_discrete (length l) 1) (ℕ_discrete (tlv_type l) 0)
    where
      ended : tlvs l ≡ [] → any_of ask (tlvs l) ≡ false
      ended e = ap (any_of ask) e

      go : Dec (1 < length l) → Dec (length l ≡ 1) → Dec (tlv_type l ≡ 0) → any_of ask (tlvs (l ++ zeros n)) ≡ any_of ask (tlvs l)
      go (yes m) o z = stump_corrupt l (tlvs_stump l (omega arith) s) good
      go (no m) (yes o) (yes z) = ap (λ (x : List ℕ). any_of ask (tlvs x)) (lone_zeros l o z) ∙ any-zeros ask none (suc n) ∙ sym (ended (tlvs_padding l o z))
      go (no m) (yes o) (no z) = stump_corrupt l (tlvs_lone l o z) good
      go (no m) (no o) z = ap (λ (x : List ℕ). any_of ask (tlvs (x ++ zeros n))) (no_bytes l (omega arith)) ∙ any-zeros ask none n ∙ sym (ended (tlvs_end l (omega arith)))

  -- a whole TLV, and the others
  more_padded : (l : List ℕ) → tlv_end l ≤ length l → any_of ask (tlvs (drop (tlv_end l) l ++ zeros n)) ≡ any_of ask (tlvs (drop (tlv_end l) l)) → any_of ask (tlvs (l ++ zeros n)) ≡ any_of ask (tlvs l)
  more_padded l fits others =
      any_first ask none _ _ (l ++ zeros n) (same_cut l (zeros n) fits)
      ∙ ap (either (ask (tlv_first l))) others
      ∙ sym (any_first ask none _ _ l (tlvs_more l fits))

  tlvs_with_zeros : (k : ℕ) (l : List ℕ) → length l ≤ k → any_of (corrupt types) (tlvs l) ≡ false → any_of ask (tlvs (l ++ zeros n)) ≡ any_of ask (tlvs l)
  tlvs_with_zeros zero l few good = end_padded l (omega arith) good
  tlvs_with_zeros (suc k) l few good = go (dec_lt (length l) (tlv_end l)) (tlvs_with_zeros k (drop (tlv_end l) l))
    where
      go : Dec (length l < tlv_end l) → (length (drop (tlv_end l) l) ≤ k → any_of (corrupt types) (tlvs (drop (tlv_end l) l)) ≡ false → any_of ask (tlvs (drop (tlv_end l) l ++ zeros n)) ≡ any_of ask (tlvs (drop (tlv_end l) l)))
          → any_of ask (tlvs (l ++ zeros n)) ≡ any_of ask (tlvs l)
      go (yes s) others = end_padded l s good
      go (no s) others =
          let d : length (drop (tlv_end l) l) ≡ length l - tlv_end l = length-drop (tlv_end l) l in
          more_padded l (omega arith) (others (omega arith) (others_whole l _ _ (tlvs_more l (omega arith)) good))

-- ---- the pieces of a payload

module _ (types : Types) (ask : Piece → Bool) (none : ask nil ≡ false) (n : ℕ) where
  pieces-padded : (k : ℕ) (r : List ℕ) → block_bytes * k ≤ length r → any_of (corrupt types) (pieces_of k r) ≡ false → any_of ask (pieces_of k (r ++ zeros n)) ≡ any_of ask (pieces_of k r)
  unfolding pieces_of
  pieces-padded k r room good = go (ℕ_discrete k 0)
    where
      go : Dec (k ≡ 0) → any_of ask (pick (eqb k 0) (tlvs (r ++ zeros n)) (map block (parts block_bytes (take (block_bytes * k) (r ++ zeros n))))) ≡ any_of ask (pick (eqb k 0) (tlvs r) (map block (parts block_bytes (take (block_bytes * k) r))))
      go (yes e) =
          let t = eq-eqb k 0 e in
          ap (any_of ask) (pick_true _ _ _ t)
          ∙ tlvs_with_zeros types ask none n (length r) r (omega arith) (ap (any_of (corrupt types)) (sym (pick_true _ _ _ t)) ∙ good)
          ∙ ap (any_of ask) (sym (pick_true _ _ _ t))
      go (no d) =
          let f = ne_eqb k 0 d in
          ap (any_of ask)
          (pick_false _ _ _ f
          ∙ ap (λ (x : List ℕ). map block (parts block_bytes x)) (take-append-le (block_bytes * k) r (zeros n) room)
          ∙ sym (pick_false _ _ _ f))

-- ---- the payload

-- tests of the payload that it passes
record Passed (types : Types) (l : List ℕ) (p : Payload) : Type 0 where
  front : 2 + nick_bytes l ≤ length l
  blocks : block_bytes * block_count l ≤ length (behind l)
  whole : any_of (corrupt types) (pieces_of (block_count l) (behind l)) ≡ false
  is : made l ≡ p

passed : (types : Types) (l : List ℕ) (p : Payload) → payload_of types l ≡ Ok p → Passed types l p
unfolding payload_of
passed types l p h =
    let a = check_got (leb 1 (length l)) _ _ p h in
    let b = check_got (leb (1 + nick_bytes l) (length l)) _ _ p a.1 in
    let c = check_got (leb (2 + nick_bytes l) (length l)) _ _ p b.1 in
    let d = check_got (leb (block_bytes * block_count l) (length (behind l))) _ _ p c.1 in
    let e = check_got (not (any_of (corrupt types) (pieces_of (block_count l) (behind l)))) _ _ p d.1 in
    record {
      front = leb-true (2 + nick_bytes l) (length l) c.0;
      blocks = leb-true (block_bytes * block_count l) (length (behind l)) d.0;
      whole = not-true (any_of (corrupt types) (pieces_of (block_count l) (behind l))) e.0;
      is = got_got _ _ e.1;
    }

module _ (l z : List ℕ) (front : 2 + nick_bytes l ≤ length l) where
  same_nicks : nick_bytes (l ++ z) ≡ nick_bytes l
  same_nicks = ap (λ (n : ℕ). 2 * n) (get_or-append l z 0 0 (omega arith))

  same_count : block_count (l ++ z) ≡ block_count l
  same_count = ap (λ (n : ℕ). get_or (l ++ z) (1 + n) 0) same_nicks ∙ get_or-append l z 0 (1 + nick_bytes l) (omega arith)

  same_behind : behind (l ++ z) ≡ behind l ++ z
  same_behind = ap (λ (n : ℕ). drop (2 + n) (l ++ z)) same_nicks ∙ drop-append-le (2 + nick_bytes l) l z front

  same_list : (made (l ++ z)).nicks ≡ (made l).nicks
  same_list =
      let r : length (drop 1 l) ≡ length l - 1 = length-drop 1 l in
      rw (same_nicks, drop-append-le 1 l z (omega arith)) (take-append-le (nick_bytes l) (drop 1 l) z (omega arith))

  same_pieces : (made (l ++ z)).pieces ≡ pieces_of (block_count l) (behind l ++ z)
  same_pieces = rw (same_count, same_behind)

-- what a TLV of type 0 and length 0 brings
nil_label : (types : Types) (x : Label) → brings_label types x nil ≡ false
unfolding brings_label vlan_in fine_in pick
nil_label types (Vlan x) = both_right (types 0) false refl
nil_label types (Fine x) = both_right (types 0) false refl

nil_mac : (types : Types) (m : ℕ) → brings_mac types m nil ≡ false
unfolding brings_mac mac_in pick
nil_mac types m = both_right (types 0) false refl

nil_gathers : (types : Types) → gathers_mac types nil ≡ false
unfolding gathers_mac some_mac_in pick
nil_gathers types = both_right (types 0) false refl

nil_whole : (types : Types) → corrupt types nil ≡ false
unfolding corrupt length_good both either
nil_whole types = both_right (types 0) false refl

module _ (types : Types) (l : List ℕ) (n : ℕ) (w : Passed types l (made l)) where
  asks_same : (ask : Piece → Bool) → ask nil ≡ false → any_of ask (made (padded n l)).pieces ≡ any_of ask (made l).pieces
  asks_same ask none = ap (any_of ask) (same_pieces l (zeros n) w.front) ∙ pieces-padded types ask none n (block_count l) (behind l) w.blocks w.whole

  padded_accepted : payload_of types (padded n l) ≡ Ok (made (padded n l))
  unfolding payload_of
  padded_accepted =
      let front = w.front in
      let blocks = w.blocks in
      let nicks = same_nicks l (zeros n) w.front in
      let count = same_count l (zeros n) w.front in
      let long : length (padded n l) ≡ length l + length (zeros n) = length-append l (zeros n) in
      let room : length (behind (padded n l)) ≡ length (behind l) + length (zeros n) = ap length (same_behind l (zeros n) w.front) ∙ length-append (behind l) (zeros n) in
      check_pass _ _ _ (le-leb 1 (length (padded n l)) (omega arith))
      ∙ check_pass _ _ _ (le-leb (1 + nick_bytes (padded n l)) (length (padded n l)) (omega arith))
      ∙ check_pass _ _ _ (le-leb (2 + nick_bytes (padded n l)) (length (padded n l)) (omega arith))
      ∙ check_pass _ _ _ (le-leb (block_bytes * block_count (padded n l)) (length (behind (padded n l))) (omega arith))
      ∙ check_pass _ _ _ (false_not _ (asks_same (corrupt types) (nil_whole types) ∙ w.whole))

  padded_same : SameSets types (made (padded n l)) (made l)
  unfolding label_meant mac_meant
  padded_same = record {
    nickname = λ ingress x. ap (λ (k : List ℕ). nickname_meant ingress k x) (same_list l (zeros n) w.front);
    label = λ x. asks_same (brings_label types x) (nil_label types x);
    mac = λ m. rw (asks_same (gathers_mac types) (nil_gathers types), asks_same (brings_mac types m) (nil_mac types m));
  }

padded_payload : (types : Types) (l : List ℕ) (p : Payload) (n : ℕ) → payload_of types l ≡ Ok p → Padded types l n p
padded_payload types l p n h =
    let w = passed types l p h in
    let v : Passed types l (made l) = record { front = w.front; blocks = w.blocks; whole = w.whole; is = refl } in
    record { accepted = padded_accepted types l n v; same = subst (SameSets types (made (padded n l))) w.is (padded_same types l n v) }

-- ---- the records that are meant

module _ (types : Types) (p q : Payload) (s : SameSets types p q) (ingress : ℕ) where
  same_held : (x : Slot) → held_meant types p ingress x ≡ held_meant types q ingress x
  unfolding entry_meant
  same_held Free = refl
  same_held Spoilt = refl
  same_held (Learned e) = rw (s.nickname ingress e.nickname, s.label e.label, s.mac e.mac)
  same_held (Configured e) = refl

  same_meant : slot_meant types p ingress ≡ slot_meant types q ingress
  unfolding slot_meant
  same_meant = fun_ext (λ r. same_held (unpacked r))

pub padded-clearing : (types : Types) (ingress : ℕ) (l t : List ℕ) (p : Payload) (n : ℕ) → payload_of types l ≡ Ok p → clearing types ingress (padded n l) t ≡ clearing types ingress l t
unfolding clearing and_then
padded-clearing types ingress l t p n h =
    let d = padded_payload types l p n h in
    rw (d.accepted, h) (ap (λ (m : List ℕ → Bool). Ok (cleared_by m t)) (same_meant types (made (padded n l)) p d.same ingress))

padded_call : (ingress : ℕ) (l t : List ℕ) (p : Payload) (n : ℕ) → payload_of every_type l ≡ Ok p → flushed ingress (padded n l) t ≡ flushed ingress l t
unfolding flushed
padded_call ingress l t p n h = rw (padded-clearing every_type ingress l t p n h)

pub padded_flush : PaddedFlush
padded_flush = record { payload = padded_payload; call = padded_call }
