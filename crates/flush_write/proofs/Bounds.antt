-- WriterLength: the length as a sum; every count is a byte.
-- Assumes nothing.
use Prim.Native.Nat.{ℕ, zero, suc, ◌+◌, ◌-◌, ◌*◌, ◌<◌, ◌≤◌}
use mathlib.Core.Bool.{Bool, true, false}
use mathlib.Core.List.{List, [], ◌∷◌, ◌++◌, flat_map}
use mathlib.Core.Path.{◌≡◌, refl, sym, ap, ◌∙◌, subst}
use native.Mathlib.Decide.{dec_lt}
use native.Mathlib.Omega.{arith}
use lib.Dec.{leb}
use lib.ListN.{length, take, drop, length-append, length-drop, length-take, take-append-drop}
use borrow.Author.Tests.{leb-true, leb-false}
use Rattle.numbers.specs.Tests.{pick, all_of}
use Rattle.numbers.specs.Bytes.{AreBytes, bytes_of}
use Rattle.numbers.specs.Numberings.{vlans, fines, macs}
use Rattle.numbers.specs.declared.Numbering.{Numbering}
use Rattle.numbers.proofs.Truth.{both_true}
use Rattle.flush_write.specs.Writing.{Block, Asked, most_listed, block_good, blocks_good, labels_named, asked_good, block_bytes, blocks_bytes, nicks_bytes, groups_from, groups, per_tlv, tlv_bytes, tlvs_bytes, only_vlans, block_form, tlv_form, flush_bytes}
use Rattle.flush_write.specs.Claims.{tlvs_length, flush_length, WriterLength}
use Rattle.flush_write.proofs.Blocks.{length_blocks, length_nicks}
use Rattle.flush_write.proofs.Exact.{written_is}

abbrev AllShort : ℕ → List (List Block) → Type 0
AllShort n [] = Unit {0}
AllShort n (g ∷ gs) = (length g ≤ n) × AllShort n gs

-- ---- how many groups

-- g groups of n hold m, and no fewer do
pub record Ceil (n m g : ℕ) : Type 0 where
  pub holds : m ≤ n * g
  pub few : n * g < m + n
  pub none : m ≡ 0 → n * g ≡ 0

module _ (n : ℕ) (some : 0 < n) where
  one_more : (m g : ℕ) → 0 < m → Ceil n (m - n) g → Dec (m < n) → Ceil n m (suc g)
  one_more m g o c (yes h) =
      let z = c.none (omega arith) in
      record { holds = omega arith; few = omega arith; none = λ e. absurd (omega arith) }
  one_more m g o c (no h) =
      let x = c.holds in
      let y = c.few in
      record { holds = omega arith; few = omega arith; none = λ e. absurd (omega arith) }

  count_step : (k : ℕ) (bs : List Block) (c : Bool) → leb (length bs) 0 ≡ c → (0 < length bs → Ceil n (length bs - n) (length (groups_from n k (drop n bs))))
      → Ceil n (length bs) (length (pick c [] (take n bs ∷ groups_from n k (drop n bs))))
  unfolding pick
  count_step k bs true e later = let z = leb-true (length bs) 0 e in record { holds = omega arith; few = omega arith; none = λ x. omega arith }
  count_step k bs false e later = let o = leb-false (length bs) 0 e in one_more (length bs) _ o (later o) (dec_lt (length bs) n)

  count_from : (k : ℕ) (bs : List Block) → length bs ≤ k → Ceil n (length bs) (length (groups_from n k bs))
  unfolding groups_from
  count_from zero bs h = record { holds = omega arith; few = omega arith; none = λ x. omega arith }
  count_from (suc k) bs h =
      let d : length (drop n bs) ≡ length bs - n = length-drop n bs in
      count_step k bs (leb (length bs) 0) refl (λ o. subst (λ (m : ℕ). Ceil n m (length (groups_from n k (drop n bs)))) d (count_from k (drop n bs) (omega arith)))

  pub count-groups : (bs : List Block) → Ceil n (length bs) (length (groups n bs))
  unfolding groups
  count-groups bs = count_from (length bs) bs (omega arith)

  -- ---- groups of at most n blocks

  short_step : (k : ℕ) (bs : List Block) (c : Bool) → AllShort n (groups_from n k (drop n bs)) → AllShort n (pick c [] (take n bs ∷ groups_from n k (drop n bs)))
  unfolding pick
  short_step k bs true later = tt
  short_step k bs false later = (let t = length-take n bs in omega arith, later)

  short_from : (k : ℕ) (bs : List Block) → AllShort n (groups_from n k bs)
  unfolding groups_from
  short_from zero bs = tt
  short_from (suc k) bs = short_step k bs (leb (length bs) 0) (short_from k (drop n bs))

  pub all_short : (bs : List Block) → AllShort n (groups n bs)
  unfolding groups
  all_short bs = short_from (length bs) bs

-- ---- lengths

empty_list : (bs : List Block) → length bs ≤ 0 → [] ≡ bs
empty_list [] h = refl
empty_list (b ∷ bs) h = absurd (omega arith)

module _ (n : ℕ) (some : 0 < n) where
  join_step : (k : ℕ) (bs : List Block) (c : Bool) → leb (length bs) 0 ≡ c → (0 < length bs → flat_map (λ g. g) (groups_from n k (drop n bs)) ≡ drop n bs)
      → flat_map (λ g. g) (pick c [] (take n bs ∷ groups_from n k (drop n bs))) ≡ bs
  unfolding pick flat_map
  join_step k bs true e later = empty_list bs (leb-true (length bs) 0 e)
  join_step k bs false e later = rw (later (leb-false (length bs) 0 e)) (take-append-drop n bs)

  join_from : (k : ℕ) (bs : List Block) → length bs ≤ k → flat_map (λ g. g) (groups_from n k bs) ≡ bs
  unfolding groups_from flat_map
  join_from zero bs h = empty_list bs h
  join_from (suc k) bs h =
      let d : length (drop n bs) ≡ length bs - n = length-drop n bs in
      join_step k bs (leb (length bs) 0) refl (λ o. join_from k (drop n bs) (omega arith))

  -- groups put together are the list
  pub groups-joined : (bs : List Block) → flat_map (λ g. g) (groups n bs) ≡ bs
  unfolding groups
  groups-joined bs = join_from (length bs) bs (omega arith)

module _ (k : ℕ) (w : Numbering) where
  sum-groups : (gs : List (List Block)) → length (flat_map (λ g. tlv_bytes k (blocks_bytes w.size g)) gs) ≡ 2 * w.size * length (flat_map (λ g. g) gs) + 2 * length gs
  unfolding flat_map tlv_bytes
  sum-groups [] = omega arith
  sum-groups (g ∷ gs) =
      let n = length-append (blocks_bytes w.size g) (flat_map (λ h. tlv_bytes k (blocks_bytes w.size h)) gs) in
      let b = length_blocks w g in
      let i = sum-groups gs in
      rw (length-append g (flat_map (λ h. h) gs)) (omega arith)

  length-tlvs : 0 < per_tlv w.size → (bs : List Block) → length (tlvs_bytes k w.size bs) ≡ 2 * w.size * length bs + 2 * length (groups (per_tlv w.size) bs)
  unfolding tlvs_bytes
  length-tlvs some bs = rw (sum-groups (groups (per_tlv w.size) bs), groups-joined (per_tlv w.size) some bs)

length_1 : (bs : List Block) → length (tlvs_bytes 1 vlans.size bs) ≡ tlvs_length vlans.size (length bs)
length_1 bs =
    let c = count-groups (per_tlv vlans.size) (omega arith) bs in
    let x = c.holds in
    let y = c.few in
    let l = length-tlvs 1 vlans (omega arith) bs in
    omega arith

length_3 : (bs : List Block) → length (tlvs_bytes 3 fines.size bs) ≡ tlvs_length fines.size (length bs)
length_3 bs =
    let c = count-groups (per_tlv fines.size) (omega arith) bs in
    let x = c.holds in
    let y = c.few in
    let l = length-tlvs 3 fines (omega arith) bs in
    omega arith

length_8 : (bs : List Block) → length (tlvs_bytes 8 macs.size bs) ≡ tlvs_length macs.size (length bs)
length_8 bs =
    let c = count-groups (per_tlv macs.size) (omega arith) bs in
    let x = c.holds in
    let y = c.few in
    let l = length-tlvs 8 macs (omega arith) bs in
    omega arith

form_length : (a : Asked) (c : Bool) → length (pick c (block_form a) (tlv_form a)) ≡ 1 + pick c (4 * length a.vlan_blocks) (tlvs_length vlans.size (length a.vlan_blocks) + (tlvs_length fines.size (length a.fine_blocks) + tlvs_length macs.size (length a.mac_blocks)))
unfolding pick
form_length a true = let b = length_blocks vlans a.vlan_blocks in omega arith
form_length a false =
    let x = length-append (tlvs_bytes 1 vlans.size a.vlan_blocks) (tlvs_bytes 3 fines.size a.fine_blocks ++ tlvs_bytes 8 macs.size a.mac_blocks) in
    let y = length-append (tlvs_bytes 3 fines.size a.fine_blocks) (tlvs_bytes 8 macs.size a.mac_blocks) in
    let u = length_1 a.vlan_blocks in
    let v = length_3 a.fine_blocks in
    let w = length_8 a.mac_blocks in
    omega arith

pub flush_length_lem : (a : Asked) → length (flush_bytes a) ≡ flush_length a
unfolding flush_bytes
flush_length_lem a =
    let x = length-append (nicks_bytes a.nicks) (pick (only_vlans a) (block_form a) (tlv_form a)) in
    let y = form_length a (only_vlans a) in
    let z = length_nicks a.nicks in
    omega arith

-- ---- at most

pub record Short (a : Asked) : Type 0 where
  pub nicks : length a.nicks ≤ 255
  pub vs : length a.vlan_blocks ≤ 255
  pub fs : length a.fine_blocks ≤ 255
  pub ms : length a.mac_blocks ≤ 255

few : (w : Numbering) (bs : List Block) → blocks_good w.low w.high bs ≡ true → length bs ≤ 255
unfolding blocks_good
few w bs e = leb-true (length bs) most_listed (both_true (leb (length bs) most_listed) (all_of (block_good w.low w.high) bs) e).0

pub short : (a : Asked) → asked_good a ≡ true → Short a
unfolding asked_good
short a good =
    let p = both_true (labels_named a) _ good in
    let q = both_true (leb (length a.nicks) most_listed) _ p.1 in
    let r = both_true (blocks_good vlans.low vlans.high a.vlan_blocks) _ q.1 in
    let s = both_true (blocks_good fines.low fines.high a.fine_blocks) (blocks_good macs.low macs.high a.mac_blocks) r.1 in
    record { nicks = leb-true (length a.nicks) most_listed q.0; vs = few vlans a.vlan_blocks r.0; fs = few fines a.fine_blocks s.0; ms = few macs a.mac_blocks s.1 }

form_most : (a : Asked) → Short a → (c : Bool) → pick c (4 * length a.vlan_blocks) (tlvs_length vlans.size (length a.vlan_blocks) + (tlvs_length fines.size (length a.fine_blocks) + tlvs_length macs.size (length a.mac_blocks))) ≤ 5660
unfolding pick
form_most a s true = let v = s.vs in omega arith
form_most a s false = let v = s.vs in let f = s.fs in let m = s.ms in omega arith

pub flush_most : (a : Asked) → Short a → flush_length a ≤ 6172
flush_most a s = let n = s.nicks in let m = form_most a s (only_vlans a) in omega arith

-- ---- bytes

abbrev Bytes : List ℕ → Type 0
Bytes [] = Unit {0}
Bytes (x ∷ l) = (x < 256) × Bytes l

bytes_are : (l : List ℕ) → Bytes l → AreBytes l
bytes_are [] p i = omega arith
bytes_are (x ∷ l) p zero = p.0
bytes_are (x ∷ l) p (suc i) = bytes_are l p.1 i

bytes_append : (xs ys : List ℕ) → Bytes xs → Bytes ys → Bytes (xs ++ ys)
bytes_append [] ys p q = q
bytes_append (x ∷ xs) ys p q = (p.0, bytes_append xs ys p.1 q)

number_bytes : (k n : ℕ) → Bytes (bytes_of k n)
unfolding bytes_of
number_bytes zero n = tt
number_bytes (suc k) n = (omega arith, number_bytes k n)

joined_bytes : {A : Type 0} (f : A → List ℕ) → ((x : A) → Bytes (f x)) → (xs : List A) → Bytes (flat_map f xs)
unfolding flat_map
joined_bytes f h [] = tt
joined_bytes f h (x ∷ xs) = bytes_append (f x) (flat_map f xs) (h x) (joined_bytes f h xs)

block_bytes_lem : (w : Numbering) (b : Block) → Bytes (block_bytes w.size b)
unfolding block_bytes
block_bytes_lem w b = bytes_append (bytes_of w.size b.start) (bytes_of w.size b.end) (number_bytes w.size b.start) (number_bytes w.size b.end)

blocks_bytes_lem : (w : Numbering) (bs : List Block) → Bytes (blocks_bytes w.size bs)
unfolding blocks_bytes
blocks_bytes_lem w bs = joined_bytes (block_bytes w.size) (block_bytes_lem w) bs

nicks_bytes_lem : (ns : List ℕ) → Bytes (nicks_bytes ns)
unfolding nicks_bytes
nicks_bytes_lem ns = joined_bytes (bytes_of 2) (number_bytes 2) ns

-- groups of at most n blocks, n of which are at most 255 bytes
module _ (k n : ℕ) (w : Numbering) (kind : k < 256) (full : (m : ℕ) → m ≤ n → 2 * w.size * m < 256) where
  short_bytes : (gs : List (List Block)) → AllShort n gs → Bytes (flat_map (λ g. tlv_bytes k (blocks_bytes w.size g)) gs)
  unfolding flat_map tlv_bytes
  short_bytes [] s = tt
  short_bytes (g ∷ gs) s =
      let l = length_blocks w g in
      let f = full (length g) s.0 in
      (kind, (omega arith, bytes_append (blocks_bytes w.size g) _ (blocks_bytes_lem w g) (short_bytes gs s.1)))

tlvs_bytes_lem : (k : ℕ) (w : Numbering) → k < 256 → ((m : ℕ) → m ≤ per_tlv w.size → 2 * w.size * m < 256) → 0 < per_tlv w.size → (bs : List Block) → Bytes (tlvs_bytes k w.size bs)
unfolding tlvs_bytes
tlvs_bytes_lem k w kind full some bs = short_bytes k (per_tlv w.size) w kind full (groups (per_tlv w.size) bs) (all_short (per_tlv w.size) some bs)

form_bytes : (a : Asked) → Short a → (c : Bool) → Bytes (pick c (block_form a) (tlv_form a))
unfolding pick
form_bytes a s true = let v = s.vs in (omega arith, blocks_bytes_lem vlans a.vlan_blocks)
form_bytes a s false = (
  omega arith,
  bytes_append (tlvs_bytes 1 vlans.size a.vlan_blocks) _ (tlvs_bytes_lem 1 vlans (omega arith) (λ m h. omega arith) (omega arith) a.vlan_blocks)
      (bytes_append (tlvs_bytes 3 fines.size a.fine_blocks) _ (tlvs_bytes_lem 3 fines (omega arith) (λ m h. omega arith) (omega arith) a.fine_blocks)
      (tlvs_bytes_lem 8 macs (omega arith) (λ m h. omega arith) (omega arith) a.mac_blocks)),
)

flush_bytes_lem : (a : Asked) → Short a → Bytes (flush_bytes a)
unfolding flush_bytes
flush_bytes_lem a s = let n = s.nicks in (omega arith, bytes_append (nicks_bytes a.nicks) _ (nicks_bytes_lem a.nicks) (form_bytes a s (only_vlans a)))

pub writer_length : WriterLength
writer_length = record {
  length_is = λ a l e. ap length (sym (written_is a l e).1) ∙ flush_length_lem a;
  most = λ a l e.
      let w = written_is a l e in
      let n : length l ≡ flush_length a = ap length (sym w.1) ∙ flush_length_lem a in
      let m = flush_most a (short a w.0) in
      omega arith;
  bytes = λ a l e. let w = written_is a l e in subst AreBytes w.1 (bytes_are (flush_bytes a) (flush_bytes_lem a (short a w.0)));
}
