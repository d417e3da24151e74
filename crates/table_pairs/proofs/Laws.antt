-- Laws of a label and an address: whether a good record can hold them, and how the first eight bytes, the key and three more bits decide
-- whether a record does.
-- Assumes nothing.
use Prim.Native.Nat.{ℕ, ◌+◌, ◌*◌, ◌/◌, ◌%◌, ◌^◌, ◌<◌, ◌≤◌}
use mathlib.Core.Bool.{Bool, true, false, ◌&&◌, ◌||◌}
use mathlib.Core.List.{List}
use mathlib.Core.Path.{◌≡◌, refl, sym, ap, ◌∙◌}
use native.Mathlib.Decide.{ℕ_discrete}
use native.Mathlib.Omega.{arith}
use lib.Dec.{eqb}
use borrow.Author.Tests.{eq-eqb, eqb-true, eqb-false}
use Rattle.numbers.specs.Tests.{both, between}
use Rattle.numbers.specs.Ranges.{individual, nickname_good, vlan_good}
use Rattle.numbers.proofs.Truth.{and_both, not_true_false, both_true, both_pass, between_in, between_is, or_neither, both_only}
use Rattle.table.specs.Record.{record_of, state_of, kind_of, label_of, mac_of, nickname_of, learned_state, configured_state, label_from, label_good, entry_of, entry_good, slot_of, same_label, entry_matches, slot_matches}
use Rattle.table.specs.Table.{holds}
use Rattle.table.proofs.Contents.{label_test_lem, same_label_from, matches_is, SameFields, match_fields, holds_parts, holds_fields}
use Rattle.table_fields.specs.Keys.{key_of, round_key_of}
use Rattle.table_pairs.specs.Pairs.{pair_good, Pair}

-- another key: the record does not hold them
pub other_key : (k x m : ℕ) → k ≤ 1 → (r : List ℕ) → (key_of (mac_of (record_of r)) ≡ key_of m → ⊥) → false ≡ holds (label_from k x) m r
other_key k x m hk r h = sym (not_true_false _ (λ e. h (ap (λ (a : ℕ). key_of a) (sym (holds_fields k x m r hk e).mac))))

-- another key of a round: the slot does not hold the label and the address
pub other_round_key : (k x m : ℕ) → k ≤ 1 → (r : List ℕ) → (round_key_of (mac_of (record_of r)) ≡ round_key_of m → ⊥) → false ≡ holds (label_from k x) m r
other_round_key k x m hk r h = sym (not_true_false _ (λ e. h (ap (λ (a : ℕ). round_key_of a) (sym (holds_fields k x m r hk e).mac))))

pub pair_test : (k x m : ℕ) → k ≤ 1 → x < 2 ^ 24 → (v i : Bool) → v ≡ vlan_good x → i ≡ individual m → (eqb k 1 || v) && i ≡ pair_good (label_from k x) m
unfolding pair_good
pair_test k x m hk hx v i vlan one = rw (label_test_lem k x (omega arith) hx v vlan, one) (and_both _ _)

-- what a record holds can be held
pub holds_good : (k x m : ℕ) (r : List ℕ) → k ≤ 1 → holds (label_from k x) m r ≡ true → pair_good (label_from k x) m ≡ true
unfolding pair_good entry_good entry_of
holds_good k x m r hk h =
    let n : ℕ = record_of r in
    let q = (holds_parts (label_from k x) m r h).0 in
    let f = match_fields k x m n hk q in
    let good = (both_true _ _ (both_true _ _ (sym (matches_is (label_from k x) m n) ∙ q)).0).1 in
    let p = both_true (label_good (label_from (kind_of n) (label_of n))) _ good in
    let one = both_true (individual (mac_of n)) _ p.1 in
    rw (f.kind, f.label, f.mac) (both_pass _ _ p.0 one.0)

-- the first eight bytes and the fields
head_state : (n : ℕ) → n < 2 ^ 112 → state_of n ≡ n / 2 ^ 48 / 2 ^ 62
head_state n h = omega arith

head_kind : (n : ℕ) → kind_of n ≡ n / 2 ^ 48 / 2 ^ 61 % 2
head_kind n = omega arith

head_label : (n : ℕ) → label_of n ≡ n / 2 ^ 48 / 2 ^ 37 % 2 ^ 24
head_label n = omega arith

head_mac : (n : ℕ) → mac_of n ≡ n / 2 ^ 48 % 2 ^ 37 * 2 ^ 11 + n / 2 ^ 37 % 2 ^ 11
head_mac n = omega arith

head_fields : (n : ℕ) → n < 2 ^ 112 → n / 2 ^ 48 ≡ state_of n * 2 ^ 62 + (kind_of n * 2 ^ 24 + label_of n) * 2 ^ 37 + mac_of n / 2 ^ 11
head_fields n h = rw (head_state n h, head_kind n, head_label n, head_mac n) (parts (n / 2 ^ 48) (n / 2 ^ 37 % 2 ^ 11) (omega arith))
  where
    parts : (a b : ℕ) → b < 2 ^ 11 → a ≡ a / 2 ^ 62 * 2 ^ 62 + (a / 2 ^ 61 % 2 * 2 ^ 24 + a / 2 ^ 37 % 2 ^ 24) * 2 ^ 37 + (a % 2 ^ 37 * 2 ^ 11 + b) / 2 ^ 11
    parts a b l = omega arith

mac_low : (n : ℕ) → n / 2 ^ 37 % 2 ^ 11 ≡ mac_of n % 2 ^ 11
mac_low n = omega arith

low_bits : (a b : ℕ) → a / 2 ^ 3 % 2 ^ 8 ≡ b / 2 ^ 3 % 2 ^ 8 → a % 2 ^ 3 ≡ b % 2 ^ 3 → a % 2 ^ 11 ≡ b % 2 ^ 11
low_bits a b h l = omega arith

last_digit : (s k : ℕ) → k ≤ 1 → (s * 2 + k) % 2 ≡ k
last_digit s k h = omega arith

digits : (s k x r a : ℕ) → k ≤ 1 → x < 2 ^ 24 → r < 2 ^ 37 → a ≡ s * 2 ^ 62 + (k * 2 ^ 24 + x) * 2 ^ 37 + r → (a / 2 ^ 62 ≡ s) × ((a / 2 ^ 61 % 2 ≡ k) × ((a / 2 ^ 37 % 2 ^ 24 ≡ x) × (a % 2 ^ 37 ≡ r)))
digits s k x r a hk hx hr e =
    (omega arith, (rw (top) (last_digit s k hk), (omega arith, omega arith)))
  where
    top : a / 2 ^ 61 ≡ s * 2 + k
    top = omega arith

-- the fields are decided by them, the key and three more bits
same_fields : (k x m n s : ℕ) → k ≤ 1 → x < 2 ^ 24 → m < 2 ^ 48 → s ≤ 3 → n < 2 ^ 112 → n / 2 ^ 48 ≡ s * 2 ^ 62 + (k * 2 ^ 24 + x) * 2 ^ 37 + m / 2 ^ 11 → key_of (mac_of n) ≡ key_of m → mac_of n % 2 ^ 3 ≡ m % 2 ^ 3 → (state_of n ≡ s) × SameFields k x m n
same_fields k x m n s hk hx hm hs hn head key low =
    let d = digits s k x (m / 2 ^ 11) (n / 2 ^ 48) hk hx (omega arith) head in
    let rest : n / 2 ^ 37 % 2 ^ 11 ≡ m % 2 ^ 11 = mac_low n ∙ low_bits (mac_of n) m key low in (
      head_state n hn ∙ d.0,
      record {
        kind = sym (head_kind n ∙ d.1.0);
        label = sym (head_label n ∙ d.1.1.0);
        mac = sym (head_mac n ∙ rw (d.1.1.1, rest) (omega arith));
      },
    )

-- where they agree, the nickname decides
pair_matches : (k x m n : ℕ) → k ≤ 1 → SameFields k x m n → 1 ≤ state_of n → state_of n ≤ 2 → pair_good (label_from k x) m ≡ true → slot_matches (label_from k x) m (slot_of n) ≡ nickname_good (nickname_of n)
unfolding pair_good entry_good entry_of entry_matches both
pair_matches k x m n hk f low high good =
    let held : between 1 2 (state_of n) ≡ true = between_in 1 2 (state_of n) low high in
    let p = both_true (label_good (label_from k x)) (individual m) good in
    let label : label_good (label_from (kind_of n) (label_of n)) ≡ true = rw (f.kind, f.label) at p.0 in
    let one : individual (mac_of n) ≡ true = rw f.mac at p.1 in
    let same : same_label (label_from k x) (label_from (kind_of n) (label_of n)) ≡ true = sym (same_label_from k x (kind_of n) (label_of n) hk (omega arith)) ∙ rw (eq-eqb k (kind_of n) f.kind, eq-eqb x (label_of n) f.label) in
    matches_is (label_from k x) m n
    ∙ rw (held, label, one, same, eq-eqb m (mac_of n) f.mac) (sym (both_only _))

module _ (k x m n : ℕ) (pair : Pair k x m) (h : ℕ) (is : h ≡ n / 2 ^ 48) (small : n < 2 ^ 112) where
  -- the first eight bytes, by the state's bits
  abbrev head : ℕ → ℕ
  head s = (k * 2 ^ 24 + x) * 2 ^ 37 + m / 2 ^ 11 + s * 2 ^ 62

  abbrev Head : Bool → Type 0
  Head b = eqb h (head learned_state) || eqb h (head configured_state) ≡ b

  pub pair_other : Head false → false ≡ slot_matches (label_from k x) m (slot_of n)
  pair_other e = sym (not_true_false _ (λ q.
      let f = match_fields k x m n pair.kind_small q in
      let state = between_is 1 2 (state_of n) (both_true _ _ (both_true _ _ (sym (matches_is (label_from k x) m n) ∙ q)).0).0 in
      go f.kind f.label f.mac state.0 state.1 (ℕ_discrete (state_of n) 1)))
    where
      go : k ≡ kind_of n → x ≡ label_of n → m ≡ mac_of n → 1 ≤ state_of n → state_of n ≤ 2 → Dec (state_of n ≡ 1) → ⊥
      go kind label mac low high (yes s) =
          let fields = head_fields n small in
          eqb-false h (head learned_state) (or_neither _ _ e).0 (omega arith)
      go kind label mac low high (no s) =
          let fields = head_fields n small in
          let two : state_of n ≡ 2 = omega arith in
          eqb-false h (head configured_state) (or_neither (eqb h (head learned_state)) _ e).1 (omega arith)

  module _ (b : ℕ) (bits : b ≡ mac_of n % 2 ^ 3) where
    pub pair_bits : (b ≡ m % 2 ^ 3 → ⊥) → false ≡ slot_matches (label_from k x) m (slot_of n)
    pair_bits e = sym (not_true_false _ (λ q.
        let mac = (match_fields k x m n pair.kind_small q).mac in
        e (omega arith)))

    pub pair_rest : key_of (mac_of n) ≡ key_of m → Head true → b ≡ m % 2 ^ 3 → (g : Bool) → g ≡ nickname_good (nickname_of n) → g ≡ slot_matches (label_from k x) m (slot_of n)
    pair_rest key e low g nickname = go _ refl e
      where
        same : (s : ℕ) → 1 ≤ s → s ≤ 2 → h ≡ head s → g ≡ slot_matches (label_from k x) m (slot_of n)
        same s one two e =
            let f = same_fields k x m n s pair.kind_small pair.label_small pair.mac_small (omega arith) small (omega arith) key (omega arith) in
            let state = f.0 in
            nickname ∙ sym (pair_matches k x m n pair.kind_small f.1 (omega arith) (omega arith) pair.good)

        go : (a : Bool) → a ≡ eqb h (head learned_state) → a || eqb h (head configured_state) ≡ true → g ≡ slot_matches (label_from k x) m (slot_of n)
        go true p q = same 1 (omega arith) (omega arith) (eqb-true h (head learned_state) (sym p))
        go false p q = same 2 (omega arith) (omega arith) (eqb-true h (head configured_state) q)
