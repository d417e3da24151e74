-- WriterExact: a payload is a front and a body; both forms of the body bring, block by block, what was asked.
-- Assumes nothing.
use Prim.Native.Nat.{ℕ, ◌+◌, ◌*◌, ◌%◌, ◌<◌, ◌≤◌}
use mathlib.Core.Bool.{Bool, true, false, not}
use mathlib.Core.List.{List, [], ◌∷◌, ◌++◌, map, append_assoc, append-nil}
use mathlib.Core.Path.{◌≡◌, refl, sym, ap, ◌∙◌, subst}
use native.Mathlib.Omega.{arith}
use lib.Dec.{leb, eqb}
use lib.ListN.{length, drop, get_or, length-append}
use lib.Seq.{take_at, drop_at, get_or_at}
use borrow.Author.Tests.{le-leb, leb-true, eqb-true, eqb-false, eq-eqb, ne_eqb}
use Rattle.numbers.specs.Tests.{pick, both, either, any_of, all_of}
use Rattle.numbers.specs.Bytes.{parts}
use Rattle.numbers.specs.Numberings.{vlans, fines, macs, in_block, filled}
use Rattle.numbers.specs.declared.Numbering.{Numbering}
use Rattle.numbers.proofs.Truth.{both_true, pick_false}
use Rattle.numbers.proofs.Answers.{got_got, check_got, check_pass}
use Rattle.table.specs.declared.Label.{Label}
use Rattle.table.specs.declared.Label.TheVariants.{Vlan, Fine}
use Rattle.flush.specs.Payload.{every_type, Piece, tlv, block, tlvs, length_good, corrupt, pieces_of, made, payload_of}
use Rattle.flush.specs.Meaning.{nickname_meant, vlan_in, fine_in, mac_in, some_mac_in, brings_label, brings_mac, gathers_mac, label_meant, mac_meant}
use Rattle.flush.specs.Padding.{padded}
use Rattle.flush.proofs.Validity.{tlvs_end}
use Rattle.flush.proofs.Padding.{padded_flush}
use Rattle.flush_write.specs.Writing.{Block, Asked, most_listed, block_good, blocks_good, labels_named, asked_good, block_bytes, blocks_bytes, nicks_bytes, groups, per_tlv, tlvs_bytes, only_vlans, block_form, tlv_form, flush_bytes, written_flush}
use Rattle.flush_write.specs.Claims.{block_has, label_asked, mac_asked, NicksFit, Means, WriterExact}
use Rattle.flush_write.proofs.Lists.{any_append, any-map, any_same, any_never, any-groups, tlvs-all}
use Rattle.flush_write.proofs.Blocks.{length_blocks, blocks_have, blocks_filled, blocks_cut, in_blocks_lem, some_filled_lem, length_nicks, nicks_listed}
use Rattle.std.specs.Prelude.{Ok}
use Rattle.numbers.specs.declared.refusals.Refusal.TheVariants.{ListsBad}

-- ---- the front

-- K-nicks n, the nicknames v, K-VLBs k, and r behind
module _ (n k : ℕ) (v r : List ℕ) (long : length v ≡ 2 * n) where
  front_count : get_or (n ∷ (v ++ (k ∷ r))) (1 + 2 * n) 0 ≡ k
  front_count = get_or_at (n ∷ v) k r 0 (1 + 2 * n) (omega arith)

  front_behind : drop (2 + 2 * n) (n ∷ (v ++ (k ∷ r))) ≡ r
  front_behind =
      let m = length-append v (k ∷ []) in
      ap (λ (x : List ℕ). drop (2 + 2 * n) (n ∷ x)) (sym (append_assoc v (k ∷ []) r))
      ∙ drop_at (n ∷ (v ++ (k ∷ []))) r (2 + 2 * n) (omega arith)

  pub payload_is : 4 * k ≤ length r → any_of (corrupt every_type) (pieces_of k r) ≡ false
      → payload_of every_type (n ∷ (v ++ (k ∷ r))) ≡ Ok (record { nicks = v; pieces = pieces_of k r })
  unfolding payload_of
  payload_is room clean =
      let m = length-append v (k ∷ r) in
      check_pass _ _ _ (le-leb 1 (length (n ∷ (v ++ (k ∷ r)))) (omega arith))
      ∙ check_pass _ _ _ (le-leb (1 + 2 * n) (length (n ∷ (v ++ (k ∷ r)))) (omega arith))
      ∙ check_pass _ _ _ (le-leb (2 + 2 * n) (length (n ∷ (v ++ (k ∷ r)))) (omega arith))
      ∙ rw (front_count, front_behind, take_at v (k ∷ r) (2 * n) long)
      (check_pass _ _ _ (le-leb (4 * k) (length r) room) ∙ check_pass _ _ _ (ap not clean))

-- ---- nicknames

double_none : (n m : ℕ) (c : Bool) → m ≡ 2 * n → eqb n 0 ≡ c → eqb m 0 ≡ c
double_none n m true e h = let z = eqb-true n 0 h in eq-eqb m 0 (omega arith)
double_none n m false e h = let z = eqb-false n 0 h in ne_eqb m 0 (λ o. z (omega arith))

nicks_meant : (ingress x : ℕ) (ns : List ℕ) → all_of (λ n. leb n 0xFFFF) ns ≡ true
    → nickname_meant ingress (nicks_bytes ns) x ≡ pick (eqb (length ns) 0) (eqb x ingress) (any_of (λ n. eqb n x) ns)
unfolding nickname_meant
nicks_meant ingress x ns fit = rw (double_none (length ns) (length (nicks_bytes ns)) (eqb (length ns) 0) (length_nicks ns) refl, nicks_listed x ns fit)

-- ---- what was asked is good

module _ (a : Asked) (good : asked_good a ≡ true) where
  parted : (labels_named a ≡ true) × (blocks_good vlans.low vlans.high a.vlan_blocks ≡ true) × (blocks_good fines.low fines.high a.fine_blocks ≡ true) × (blocks_good macs.low macs.high a.mac_blocks ≡ true)
  unfolding asked_good
  parted =
      let p = both_true (labels_named a) _ good in
      let q = both_true (leb (length a.nicks) most_listed) _ p.1 in
      let r = both_true (blocks_good vlans.low vlans.high a.vlan_blocks) _ q.1 in
      let s = both_true (blocks_good fines.low fines.high a.fine_blocks) (blocks_good macs.low macs.high a.mac_blocks) r.1 in
      (p.0, r.0, s.0, s.1)

each_good : (w : Numbering) (bs : List Block) → blocks_good w.low w.high bs ≡ true → all_of (block_good w.low w.high) bs ≡ true
unfolding blocks_good
each_good w bs e = (both_true (leb (length bs) most_listed) (all_of (block_good w.low w.high) bs) e).1

-- ---- the TLV form

abbrev kind : ℕ → Numbering → List Block → List Piece
kind k w bs = map (λ g. tlv k (blocks_bytes w.size g)) (groups (per_tlv w.size) bs)

kind_cut : (k : ℕ) (w : Numbering) (bs : List Block) (r : List ℕ) → tlvs (tlvs_bytes k w.size bs ++ r) ≡ kind k w bs ++ tlvs r
unfolding tlvs_bytes
kind_cut k w bs r = tlvs-all k (blocks_bytes w.size) (groups (per_tlv w.size) bs) r

module _ (q : Piece → Bool) (k : ℕ) (w : Numbering) where
  kind_brings : (p : Block → Bool) → 0 < per_tlv w.size → ((g : List Block) → q (tlv k (blocks_bytes w.size g)) ≡ any_of p g) → (bs : List Block) → any_of q (kind k w bs) ≡ any_of p bs
  kind_brings p some h bs =
      any-map q (λ g. tlv k (blocks_bytes w.size g)) (groups (per_tlv w.size) bs)
      ∙ any_same (λ g. q (tlv k (blocks_bytes w.size g))) (any_of p) h (groups (per_tlv w.size) bs)
      ∙ any-groups (per_tlv w.size) some p bs

  kind_never : ((g : List Block) → q (tlv k (blocks_bytes w.size g)) ≡ false) → (bs : List Block) → any_of q (kind k w bs) ≡ false
  kind_never h bs =
      any-map q (λ g. tlv k (blocks_bytes w.size g)) (groups (per_tlv w.size) bs)
      ∙ any_never (λ g. q (tlv k (blocks_bytes w.size g))) h (groups (per_tlv w.size) bs)

-- bytes behind that bring nothing
abbrev Blank : List ℕ → Type 0
Blank r = (q : Piece → Bool) → q (tlv 0 []) ≡ false → any_of q (tlvs r) ≡ false

blank_none : Blank []
unfolding any_of
blank_none q h = ap (any_of q) (tlvs_end [] (omega arith))

either_none : (a b : Bool) → b ≡ false → either a b ≡ a
unfolding either
either_none true b h = refl
either_none false b h = h

abbrev body : List Block → List Block → List Block → List ℕ → List ℕ
body vs fs ms r = (tlvs_bytes 1 vlans.size vs ++ (tlvs_bytes 3 fines.size fs ++ tlvs_bytes 8 macs.size ms)) ++ r

module _ (vs fs ms : List Block) (r : List ℕ) (blank : Blank r) where
  cut : tlvs (body vs fs ms r) ≡ kind 1 vlans vs ++ (kind 3 fines fs ++ (kind 8 macs ms ++ tlvs r))
  cut =
      ap tlvs (append_assoc (tlvs_bytes 1 vlans.size vs) (tlvs_bytes 3 fines.size fs ++ tlvs_bytes 8 macs.size ms) r)
      ∙ kind_cut 1 vlans vs ((tlvs_bytes 3 fines.size fs ++ tlvs_bytes 8 macs.size ms) ++ r)
      ∙ ap (λ (x : List ℕ). kind 1 vlans vs ++ tlvs x) (append_assoc (tlvs_bytes 3 fines.size fs) (tlvs_bytes 8 macs.size ms) r)
      ∙ ap (λ (x : List Piece). kind 1 vlans vs ++ x) (kind_cut 3 fines fs (tlvs_bytes 8 macs.size ms ++ r))
      ∙ ap (λ (x : List Piece). kind 1 vlans vs ++ (kind 3 fines fs ++ x)) (kind_cut 8 macs ms r)

  -- a test that an empty TLV of type 0 does not pass
  split : (q : Piece → Bool) → q (tlv 0 []) ≡ false → any_of q (tlvs (body vs fs ms r)) ≡ either (any_of q (kind 1 vlans vs)) (either (any_of q (kind 3 fines fs)) (any_of q (kind 8 macs ms)))
  split q h =
      ap (any_of q) cut
      ∙ any_append q (kind 1 vlans vs) (kind 3 fines fs ++ (kind 8 macs ms ++ tlvs r))
      ∙ ap (either (any_of q (kind 1 vlans vs))) (
      any_append q (kind 3 fines fs) (kind 8 macs ms ++ tlvs r)
      ∙ ap (either (any_of q (kind 3 fines fs))) (any_append q (kind 8 macs ms) (tlvs r) ∙ either_none (any_of q (kind 8 macs ms)) (any_of q (tlvs r)) (blank q h)))

  only_1 : (q : Piece → Bool) (b : Bool) → q (tlv 0 []) ≡ false → any_of q (kind 1 vlans vs) ≡ b → any_of q (kind 3 fines fs) ≡ false → any_of q (kind 8 macs ms) ≡ false → any_of q (tlvs (body vs fs ms r)) ≡ b
  unfolding either
  only_1 q b h x y z = split q h ∙ rw (y, z, x) (either_none b false refl)

  only_3 : (q : Piece → Bool) (b : Bool) → q (tlv 0 []) ≡ false → any_of q (kind 1 vlans vs) ≡ false → any_of q (kind 3 fines fs) ≡ b → any_of q (kind 8 macs ms) ≡ false → any_of q (tlvs (body vs fs ms r)) ≡ b
  unfolding either
  only_3 q b h x y z = split q h ∙ rw (x, y, z) (either_none b false refl)

  only_8 : (q : Piece → Bool) (b : Bool) → q (tlv 0 []) ≡ false → any_of q (kind 1 vlans vs) ≡ false → any_of q (kind 3 fines fs) ≡ false → any_of q (kind 8 macs ms) ≡ b → any_of q (tlvs (body vs fs ms r)) ≡ b
  unfolding either
  only_8 q b h x y z = split q h ∙ rw (x, y, z)

  good_1 : (g : List Block) → corrupt every_type (tlv 1 (blocks_bytes vlans.size g)) ≡ false
  unfolding corrupt length_good both either
  good_1 g = let n = length_blocks vlans g in rw (eq-eqb (length (blocks_bytes vlans.size g) % 4) 0 (omega arith))

  good_3 : (g : List Block) → corrupt every_type (tlv 3 (blocks_bytes fines.size g)) ≡ false
  unfolding corrupt length_good both either
  good_3 g = let n = length_blocks fines g in rw (eq-eqb (length (blocks_bytes fines.size g) % 6) 0 (omega arith))

  good_8 : (g : List Block) → corrupt every_type (tlv 8 (blocks_bytes macs.size g)) ≡ false
  unfolding corrupt length_good both either
  good_8 g = let n = length_blocks macs g in rw (eq-eqb (length (blocks_bytes macs.size g) % 12) 0 (omega arith))

  clean : any_of (corrupt every_type) (tlvs (body vs fs ms r)) ≡ false
  unfolding corrupt length_good both either
  clean = only_1 (corrupt every_type) false refl (kind_never _ 1 vlans good_1 vs) (kind_never _ 3 fines good_3 fs) (kind_never _ 8 macs good_8 ms)

  vlan_meant : (x : ℕ) → all_of (block_good vlans.low vlans.high) vs ≡ true → label_meant every_type (tlvs (body vs fs ms r)) (Vlan x) ≡ any_of (block_has x) vs
  unfolding label_meant brings_label both vlan_in pick
  vlan_meant x good =
      only_1 (brings_label every_type (Vlan x)) (any_of (block_has x) vs) refl
      (kind_brings _ 1 vlans (λ b. in_block vlans x (block_bytes vlans.size b)) (omega arith) (in_blocks_lem vlans (omega arith) x) vs ∙ blocks_have vlans (omega arith) (omega arith) x vs good)
      (kind_never _ 3 fines (λ g. refl) fs)
      (kind_never _ 8 macs (λ g. refl) ms)

  fine_meant : (x : ℕ) → all_of (block_good fines.low fines.high) fs ≡ true → label_meant every_type (tlvs (body vs fs ms r)) (Fine x) ≡ any_of (block_has x) fs
  unfolding label_meant brings_label both fine_in pick
  fine_meant x good =
      only_3 (brings_label every_type (Fine x)) (any_of (block_has x) fs) refl
      (kind_never _ 1 vlans (λ g. refl) vs)
      (kind_brings _ 3 fines (λ b. in_block fines x (block_bytes fines.size b)) (omega arith) (in_blocks_lem fines (omega arith) x) fs ∙ blocks_have fines (omega arith) (omega arith) x fs good)
      (kind_never _ 8 macs (λ g. refl) ms)

  mac_brought : (m : ℕ) → all_of (block_good macs.low macs.high) ms ≡ true → any_of (brings_mac every_type m) (tlvs (body vs fs ms r)) ≡ any_of (block_has m) ms
  unfolding brings_mac both mac_in pick
  mac_brought m good =
      only_8 (brings_mac every_type m) (any_of (block_has m) ms) refl
      (kind_never _ 1 vlans (λ g. refl) vs)
      (kind_never _ 3 fines (λ g. refl) fs)
      (kind_brings _ 8 macs (λ b. in_block macs m (block_bytes macs.size b)) (omega arith) (in_blocks_lem macs (omega arith) m) ms ∙ blocks_have macs (omega arith) (omega arith) m ms good)

  mac_gathered : all_of (block_good macs.low macs.high) ms ≡ true → not (any_of (gathers_mac every_type) (tlvs (body vs fs ms r))) ≡ eqb (length ms) 0
  unfolding gathers_mac both some_mac_in pick
  mac_gathered good =
      ap not (only_8 (gathers_mac every_type) (any_of (λ b. filled macs (block_bytes macs.size b)) ms) refl
      (kind_never _ 1 vlans (λ g. refl) vs)
      (kind_never _ 3 fines (λ g. refl) fs)
      (kind_brings _ 8 macs (λ b. filled macs (block_bytes macs.size b)) (omega arith) (some_filled_lem macs (omega arith)) ms))
      ∙ blocks_filled macs (omega arith) (omega arith) ms good

  mac_meant_lem : (m : ℕ) → all_of (block_good macs.low macs.high) ms ≡ true → mac_meant every_type (tlvs (body vs fs ms r)) m ≡ either (eqb (length ms) 0) (any_of (block_has m) ms)
  unfolding mac_meant
  mac_meant_lem m good = rw (mac_gathered good, mac_brought m good)

-- ---- the VLAN block form

module _ (vs : List Block) (r : List ℕ) (some : 0 < length vs) where
  pieces_are : pieces_of (length vs) (blocks_bytes vlans.size vs ++ r) ≡ map block (map (block_bytes vlans.size) vs)
  unfolding pieces_of
  pieces_are =
      let n = length_blocks vlans vs in
      pick_false _ _ _ (ne_eqb (length vs) 0 (λ o. omega arith))
      ∙ ap (λ (l : List ℕ). map block (parts 4 l)) (take_at (blocks_bytes vlans.size vs) r (4 * length vs) (omega arith))
      ∙ ap (map block) (blocks_cut vlans (omega arith) vs)

  -- a test of any block
  asked_of : (q : Piece → Bool) → any_of q (pieces_of (length vs) (blocks_bytes vlans.size vs ++ r)) ≡ any_of (λ b. q (block (block_bytes vlans.size b))) vs
  asked_of q =
      ap (any_of q) pieces_are
      ∙ any-map q block (map (block_bytes vlans.size) vs)
      ∙ any-map (λ b. q (block b)) (block_bytes vlans.size) vs

  blocks_clean : any_of (corrupt every_type) (pieces_of (length vs) (blocks_bytes vlans.size vs ++ r)) ≡ false
  unfolding corrupt
  blocks_clean = asked_of (corrupt every_type) ∙ any_never _ (λ b. refl) vs

  block_vlan : (x : ℕ) → all_of (block_good vlans.low vlans.high) vs ≡ true → label_meant every_type (pieces_of (length vs) (blocks_bytes vlans.size vs ++ r)) (Vlan x) ≡ any_of (block_has x) vs
  unfolding label_meant brings_label
  block_vlan x good = asked_of (brings_label every_type (Vlan x)) ∙ blocks_have vlans (omega arith) (omega arith) x vs good

  block_fine : (x : ℕ) → label_meant every_type (pieces_of (length vs) (blocks_bytes vlans.size vs ++ r)) (Fine x) ≡ false
  unfolding label_meant brings_label
  block_fine x = asked_of (brings_label every_type (Fine x)) ∙ any_never _ (λ b. refl) vs

  block_none : any_of (gathers_mac every_type) (pieces_of (length vs) (blocks_bytes vlans.size vs ++ r)) ≡ false
  unfolding gathers_mac
  block_none = asked_of (gathers_mac every_type) ∙ any_never _ (λ b. refl) vs

  block_mac : (m : ℕ) → mac_meant every_type (pieces_of (length vs) (blocks_bytes vlans.size vs ++ r)) m ≡ true
  unfolding mac_meant either
  block_mac m = rw block_none

-- ---- both forms

none_listed : (p : Block → Bool) (bs : List Block) → eqb (length bs) 0 ≡ true → any_of p bs ≡ false
unfolding any_of
none_listed p [] e = refl
none_listed p (b ∷ bs) e = let z = eqb-true (length (b ∷ bs)) 0 e in absurd (omega arith)

module _ (a : Asked) (fit : NicksFit a) (good : asked_good a ≡ true) where
  -- what is written, with r behind
  block_shape : (r : List ℕ) → only_vlans a ≡ true → flush_bytes a ++ r ≡ length a.nicks ∷ (nicks_bytes a.nicks ++ (length a.vlan_blocks ∷ (blocks_bytes vlans.size a.vlan_blocks ++ r)))
  unfolding flush_bytes pick
  block_shape r h = rw h (ap (λ (x : List ℕ). length a.nicks ∷ x) (append_assoc (nicks_bytes a.nicks) (block_form a) r))

  tlv_shape : (r : List ℕ) → only_vlans a ≡ false → flush_bytes a ++ r ≡ length a.nicks ∷ (nicks_bytes a.nicks ++ (0 ∷ body a.vlan_blocks a.fine_blocks a.mac_blocks r))
  unfolding flush_bytes pick
  tlv_shape r h = rw h (ap (λ (x : List ℕ). length a.nicks ∷ x) (append_assoc (nicks_bytes a.nicks) (tlv_form a) r))

  none_other : only_vlans a ≡ true → (eqb (length a.fine_blocks) 0 ≡ true) × (eqb (length a.mac_blocks) 0 ≡ true)
  unfolding only_vlans
  none_other h = both_true (eqb (length a.fine_blocks) 0) (eqb (length a.mac_blocks) 0) h

  some_vlans : only_vlans a ≡ true → 0 < length a.vlan_blocks
  unfolding labels_named
  some_vlans h =
      let z = eqb-true (length a.fine_blocks) 0 (none_other h).0 in
      let o = leb-true 1 (length a.vlan_blocks + length a.fine_blocks) (parted a good).0 in
      omega arith

  block_label : (r : List ℕ) → only_vlans a ≡ true → (l : Label) → label_meant every_type (pieces_of (length a.vlan_blocks) (blocks_bytes vlans.size a.vlan_blocks ++ r)) l ≡ label_asked a l
  block_label r h (Vlan x) = block_vlan a.vlan_blocks r (some_vlans h) x (each_good vlans a.vlan_blocks (parted a good).1)
  block_label r h (Fine x) = block_fine a.vlan_blocks r (some_vlans h) x ∙ sym (none_listed (block_has x) a.fine_blocks (none_other h).0)

  block_macs : (r : List ℕ) → only_vlans a ≡ true → (m : ℕ) → mac_meant every_type (pieces_of (length a.vlan_blocks) (blocks_bytes vlans.size a.vlan_blocks ++ r)) m ≡ mac_asked a m
  unfolding either
  block_macs r h m = block_mac a.vlan_blocks r (some_vlans h) m ∙ rw (none_other h).1

  block_means : (r : List ℕ) → only_vlans a ≡ true → Means a (flush_bytes a ++ r)
  block_means r h =
      let vs : List Block = a.vlan_blocks in
      let n = length_blocks vlans vs in
      let m = length-append (blocks_bytes vlans.size vs) r in (
        record { nicks = nicks_bytes a.nicks; pieces = pieces_of (length vs) (blocks_bytes vlans.size vs ++ r) },
        ap (payload_of every_type) (block_shape r h)
            ∙ payload_is (length a.nicks) (length vs) (nicks_bytes a.nicks) (blocks_bytes vlans.size vs ++ r) (length_nicks a.nicks) (omega arith) (blocks_clean vs r (some_vlans h)),
        record { nickname = λ ingress x. nicks_meant ingress x a.nicks fit; label = block_label r h; mac = block_macs r h },
      )

  tlv_label : (r : List ℕ) → Blank r → (l : Label) → label_meant every_type (tlvs (body a.vlan_blocks a.fine_blocks a.mac_blocks r)) l ≡ label_asked a l
  tlv_label r blank (Vlan x) = vlan_meant a.vlan_blocks a.fine_blocks a.mac_blocks r blank x (each_good vlans a.vlan_blocks (parted a good).1)
  tlv_label r blank (Fine x) = fine_meant a.vlan_blocks a.fine_blocks a.mac_blocks r blank x (each_good fines a.fine_blocks (parted a good).2)

  tlv_means : (r : List ℕ) → Blank r → only_vlans a ≡ false → Means a (flush_bytes a ++ r)
  unfolding pieces_of pick
  tlv_means r blank h =
      let l : List ℕ = body a.vlan_blocks a.fine_blocks a.mac_blocks r in (
        record { nicks = nicks_bytes a.nicks; pieces = tlvs l },
        ap (payload_of every_type) (tlv_shape r h)
            ∙ payload_is (length a.nicks) 0 (nicks_bytes a.nicks) l (length_nicks a.nicks) (omega arith) (clean a.vlan_blocks a.fine_blocks a.mac_blocks r blank),
        record {
          nickname = λ ingress x. nicks_meant ingress x a.nicks fit;
          label = tlv_label r blank;
          mac = λ m. mac_meant_lem a.vlan_blocks a.fine_blocks a.mac_blocks r blank m (each_good macs a.mac_blocks (parted a good).3);
        },
      )

  form_means : (r : List ℕ) → Blank r → (c : Bool) → only_vlans a ≡ c → Means a (flush_bytes a ++ r)
  form_means r blank true h = block_means r h
  form_means r blank false h = tlv_means r blank h

  pub means : (r : List ℕ) → Blank r → Means a (flush_bytes a ++ r)
  means r blank = form_means r blank (only_vlans a) refl

pub written_is : (a : Asked) (l : List ℕ) → written_flush a ≡ Ok l → (asked_good a ≡ true) × (flush_bytes a ≡ l)
unfolding written_flush
written_is a l e = let c = check_got (asked_good a) ListsBad (Ok (flush_bytes a)) l e in (c.0, got_got (flush_bytes a) l c.1)

as_written : (a : Asked) (l : List ℕ) → NicksFit a → written_flush a ≡ Ok l → Means a l
as_written a l fit e =
    let w = written_is a l e in
    subst (Means a) (append-nil (flush_bytes a) ∙ w.1) (means a fit w.0 [] blank_none)

-- zeros after a payload bear on none of its sets
pub means_padded : (a : Asked) (l : List ℕ) (n : ℕ) → Means a l → Means a (padded n l)
means_padded a l n m =
    let q = padded_flush.payload every_type l m.0 n m.1 in (
      made (padded n l),
      q.accepted,
      record {
        nickname = λ ingress x. q.same.nickname ingress x ∙ m.2.nickname ingress x;
        label = λ x. q.same.label x ∙ m.2.label x;
        mac = λ x. q.same.mac x ∙ m.2.mac x;
      },
    )

pub writer_exact : WriterExact
writer_exact = record {
  written = as_written;
  padded = λ a l n fit e. means_padded a l n (as_written a l fit e);
  trailed = λ a l r fit h e. let w = written_is a l e in subst (λ (x : List ℕ). Means a (x ++ r)) w.1 (block_means a fit w.0 r h);
}
