-- Laws of judging: the length rule of each type, what a TLV adds to what was noted, a walk in which what was noted and what is left
-- make up the whole, and the payload around the TLVs.
-- Assumes nothing.
use Prim.Native.Nat.{ℕ, ◌+◌, ◌-◌, ◌*◌, ◌%◌, ◌<◌, ◌≤◌}
use mathlib.Core.Bool.{Bool, true, false, not, ◌&&◌, ◌||◌}
use mathlib.Core.List.{List}
use mathlib.Core.Path.{◌≡◌, refl, sym, ap, ◌∙◌}
use native.Mathlib.Nat.{add-zero}
use native.Mathlib.Omega.{arith}
use lib.Dec.{leb, eqb}
use lib.ListN.{length, take, drop, get_or, length-drop}
use lib.Seq.{length-take-le, get_or-drop}
use borrow.Author.Tests.{le-leb, lt-leb, eq-eqb, ne_eqb}
use Rattle.numbers.specs.Tests.{pick, both, either, any_of, between}
use Rattle.numbers.specs.Result.{Outcome, check}
use Rattle.numbers.proofs.Truth.{and_both, or_either, both_right, both_true, between_in, either_none}
use Rattle.numbers.proofs.Answers.{check_pass}
use Rattle.numbers.proofs.Lists.{rest_is}
use Rattle.flush.specs.Payload.{Types, every_type, vlan_types, Piece, tlv, tlv_end, is_padding, tlvs, length_good, corrupt, nick_bytes, block_count, behind, block_bytes, pieces_of, Payload, made, payload_of}
use Rattle.flush_tlvs.proofs.Laws.{tlvs_done_lem, tlv_padding, tlv_stump, tlv_here, tlv_hit, tlv_next}
use Rattle.flush_payload.specs.Judging.{every_kind, vlan_kind, list_kind, map_kind, mac_kind, of_kind, ruled, EmptyPassed, Noted, NotedMore, Nothing, JudgedTlvs, JudgedPayload}
use Rattle.flush_payload.specs.declared.Kinds.{Kinds}
use Rattle.flush_payload.proofs.Laws.{none_brought}
use Rattle.std.specs.Prelude.{Ok, Err}
use Rattle.numbers.specs.declared.refusals.Refusal.TheVariants.{PayloadCorrupt}

-- ---- the length rules

both-all : (a : Bool) → a ≡ both a true
unfolding both
both-all true = refl
both-all false = refl

module _ (k n : ℕ) where
  pub length_1 : k ≡ 1 → eqb (n % 4) 0 ≡ length_good k n
  unfolding length_good both either
  length_1 h = rw h (both-all _)

  pub length_2 : k ≡ 2 → leb 2 n ≡ length_good k n
  unfolding length_good both either
  length_2 h = rw h (both-all _)

  pub length_3 : k ≡ 3 → eqb (n % 6) 0 ≡ length_good k n
  unfolding length_good both either
  length_3 h = rw h (both-all _)

  pub length_4 : k ≡ 4 → eqb (n % 3) 0 ≡ length_good k n
  unfolding length_good both either
  length_4 h = rw h (both-all _)

  pub length_5 : k ≡ 5 → leb 3 n ≡ length_good k n
  unfolding length_good both either
  length_5 h = rw h (both-all _)

  pub length_6 : k ≡ 6 → eqb n 0 ≡ length_good k n
  unfolding length_good both either
  length_6 h = rw h (both-all _)

  pub length_7 : k ≡ 7 → eqb (n % 6) 0 ≡ length_good k n
  unfolding length_good both either
  length_7 h = rw h (both-all _)

  pub length_8 : k ≡ 8 → eqb (n % 12) 0 ≡ length_good k n
  unfolding length_good both either
  length_8 h = rw h

  pub length_other : (k ≡ 1 → ⊥) → (k ≡ 2 → ⊥) → (k ≡ 3 → ⊥) → (k ≡ 4 → ⊥) → (k ≡ 5 → ⊥) → (k ≡ 6 → ⊥) → (k ≡ 7 → ⊥) → (k ≡ 8 → ⊥) → true ≡ length_good k n
  unfolding length_good both either
  length_other a b c d e f g h = rw (ne_eqb k 1 a, ne_eqb k 2 b, ne_eqb k 3 c, ne_eqb k 4 d, ne_eqb k 5 e, ne_eqb k 6 f, ne_eqb k 7 g, ne_eqb k 8 h)

-- ---- padding

pub padding_at : (l : List ℕ) (at : ℕ) → eqb (length l - at) 1 && eqb (get_or l at 0) 0 ≡ is_padding (drop at l)
padding_at l at =
    let d : length (drop at l) ≡ length l - at = length-drop at l in
    let f : get_or (drop at l) 0 0 ≡ get_or l at 0 = get_or-drop at l 0 0 ∙ rw (add-zero at) in
    rw (d, f) (and_both (eqb (length l - at) 1) (eqb (get_or l at 0) 0))

-- ---- types and kinds

either_same : {a b x y : Bool} → a ≡ x → b ≡ y → a || b ≡ either x y
either_same {a} {b} p q = rw (← p, ← q) (or_either a b)

module _ (k : ℕ) where
  pub ruled_full : leb 1 k && leb k 8 ≡ ruled every_type k
  unfolding ruled both between
  ruled_full = and_both (leb 1 k) (leb k 8)

  outside : between 1 8 k ≡ false → (n : ℕ) → 1 ≤ n → n ≤ 8 → eqb k n ≡ false
  outside e n a b = ne_eqb k n (λ s. let z : ◌≡◌ {A = Bool} true false = sym (between_in 1 8 k (omega arith) (omega arith)) ∙ e in let y : ◌≡◌ {A = ℕ} 0 1 = cc in absurd (omega arith))

  -- a type that is implemented by the small model has a rule
  small_ruled : (b : Bool) → vlan_types k ≡ b → (c : Bool) → between 1 8 k ≡ c → b ≡ both b c
  unfolding both either
  small_ruled true e true f = refl
  small_ruled true e false f = sym e ∙ rw (outside f 1 (omega arith) (omega arith), outside f 2 (omega arith) (omega arith), outside f 6 (omega arith) (omega arith))
  small_ruled false e c f = refl

  pub ruled_small : eqb k 1 || (eqb k 2 || eqb k 6) ≡ ruled vlan_types k
  unfolding ruled
  ruled_small = either_same refl (either_same refl refl) ∙ small_ruled (vlan_types k) refl (between 1 8 k) refl

  -- types that have no rule are of no kind
  module _ (none : between 1 8 k ≡ false) where
    pub no_every : every_kind k ≡ false
    no_every = outside none 6 (omega arith) (omega arith)

    pub no_vlan : vlan_kind k ≡ false
    unfolding either
    no_vlan = rw (outside none 1 (omega arith) (omega arith)) (outside none 2 (omega arith) (omega arith))

    pub no_list : list_kind k ≡ false
    unfolding either
    no_list = rw (outside none 3 (omega arith) (omega arith)) (outside none 4 (omega arith) (omega arith))

    pub no_map : map_kind k ≡ false
    no_map = outside none 5 (omega arith) (omega arith)

    pub no_mac : mac_kind k ≡ false
    unfolding either
    no_mac = rw (outside none 7 (omega arith) (omega arith)) (outside none 8 (omega arith) (omega arith))

    no_rule : (n : ℕ) → length_good k n ≡ true
    unfolding length_good both either
    no_rule n =
        rw (
          outside none 1 (omega arith) (omega arith),
          outside none 2 (omega arith) (omega arith),
          outside none 3 (omega arith) (omega arith),
          outside none 4 (omega arith) (omega arith),
          outside none 5 (omega arith) (omega arith),
          outside none 6 (omega arith) (omega arith),
          outside none 7 (omega arith) (omega arith),
          outside none 8 (omega arith) (omega arith),
        )

pub noted_more : (f g : Kinds) (k : ℕ) → g.blocks ≡ f.blocks → g.every ≡ f.every || eqb k 6 → g.vlans ≡ f.vlans || (eqb k 1 || eqb k 2) → g.lists ≡ f.lists || (eqb k 3 || eqb k 4) → g.maps ≡ f.maps || eqb k 5 → g.macs ≡ f.macs || (eqb k 7 || eqb k 8) → NotedMore k f g
noted_more f g k a b c d e h = record {
  blocks = a;
  every = b ∙ either_same refl refl;
  vlans = c ∙ either_same refl (either_same refl refl);
  lists = d ∙ either_same refl (either_same refl refl);
  maps = e ∙ either_same refl refl;
  macs = h ∙ either_same refl (either_same refl refl);
}

-- ---- the walk

either_assoc : (a b c : Bool) → either a (either b c) ≡ either (either a b) c
unfolding either
either_assoc true b c = refl
either_assoc false b c = refl

-- a kind is there exactly if it was noted, or a TLV from `at` on is of it
abbrev Left : Types → List ℕ → ℕ → (ℕ → Bool) → Bool → Type 0
Left types l at kind b = any_of (of_kind types kind) (tlvs l) ≡ either b (any_of (of_kind types kind) (tlvs (drop at l)))

pub record Walked (types : Types) (l : List ℕ) (at : ℕ) (f : Kinds) : Type 0 where
  pub place : at ≤ length l
  pub whole : any_of (corrupt types) (tlvs l) ≡ any_of (corrupt types) (tlvs (drop at l))
  pub blocks : f.blocks ≡ 0
  pub every : Left types l at every_kind f.every
  pub vlans : Left types l at vlan_kind f.vlans
  pub lists : Left types l at list_kind f.lists
  pub maps : Left types l at map_kind f.maps
  pub macs : Left types l at mac_kind f.macs

bad_is : (types : Types) (ps : List Piece) → any_of (corrupt types) ps ≡ true → JudgedTlvs types ps (Err PayloadCorrupt)
bad_is types ps e = record {
  bad = λ r s. (cc, e);
  good = λ f s. let z : ◌≡◌ {A = ℕ} 0 1 = cc in absurd (omega arith);
  noted = λ f s. let z : ◌≡◌ {A = ℕ} 0 1 = cc in absurd (omega arith);
}

good_is : (types : Types) (ps : List Piece) (f : Kinds) → any_of (corrupt types) ps ≡ false → Noted types 0 ps f → JudgedTlvs types ps (Ok f)
good_is types ps f e n = record {
  bad = λ r s. let z : ◌≡◌ {A = ℕ} 0 1 = cc in absurd (omega arith);
  good = λ g s. e;
  noted = λ g s. let q : f ≡ g = cc in rw q at n;
}

module _ (types : Types) (l : List ℕ) where
  left_start : (kind : ℕ → Bool) (b : Bool) → b ≡ false → Left types l 0 kind b
  unfolding either
  left_start kind b e = rw e

  pub walk_start : (f : Kinds) → Nothing 0 f → Walked types l 0 f
  walk_start f n = record {
    place = omega arith;
    whole = refl;
    blocks = n.blocks;
    every = left_start every_kind _ n.every;
    vlans = left_start vlan_kind _ n.vlans;
    lists = left_start list_kind _ n.lists;
    maps = left_start map_kind _ n.maps;
    macs = left_start mac_kind _ n.macs;
  }

  module _ (at : ℕ) (f : Kinds) (w : Walked types l at f) where
    left_done : (kind : ℕ → Bool) (b : Bool) → Left types l at kind b → length l ≤ at → b ≡ any_of (of_kind types kind) (tlvs l)
    left_done kind b e h =
        let d : false ≡ any_of (of_kind types kind) (tlvs (drop at l)) = tlvs_done_lem (of_kind types kind) l at _ refl h in
        sym (e ∙ rw (← d) (either_none b))

    pub walk_done : length l ≤ at → JudgedTlvs types (tlvs l) (Ok f)
    walk_done h =
        good_is types (tlvs l) f (sym (tlvs_done_lem (corrupt types) l at _ w.whole h))
        (record {
          blocks = w.blocks;
          every = left_done every_kind _ w.every h;
          vlans = left_done vlan_kind _ w.vlans h;
          lists = left_done list_kind _ w.lists h;
          maps = left_done map_kind _ w.maps h;
          macs = left_done mac_kind _ w.macs h;
        })

    module _ (more : at < length l) (e : ℕ) (end : e ≡ at + tlv_end (drop at l)) where
      -- what is left is padding, or cut
      module _ (p : Bool) (test : p ≡ is_padding (drop at l)) where
        left_padding : (kind : ℕ → Bool) (b : Bool) → Left types l at kind b → p ≡ true → b ≡ any_of (of_kind types kind) (tlvs l)
        left_padding kind b s h =
            let d : false ≡ any_of (of_kind types kind) (tlvs (drop at l)) = tlv_padding (of_kind types kind) l at _ refl more e end p test h in
            sym (s ∙ rw (← d) (either_none b))

        pub walk_padding : p ≡ true → JudgedTlvs types (tlvs l) (Ok f)
        walk_padding h =
            good_is types (tlvs l) f (sym (tlv_padding (corrupt types) l at _ w.whole more e end p test h))
            (record {
              blocks = w.blocks;
              every = left_padding every_kind _ w.every h;
              vlans = left_padding vlan_kind _ w.vlans h;
              lists = left_padding list_kind _ w.lists h;
              maps = left_padding map_kind _ w.maps h;
              macs = left_padding mac_kind _ w.macs h;
            })

        pub walk_cut : p ≡ false → length l < e → JudgedTlvs types (tlvs l) (Err PayloadCorrupt)
        unfolding corrupt
        walk_cut h short = bad_is types (tlvs l) (sym (tlv_stump (corrupt types) l at _ w.whole more e end p test h short true refl))

      module _ (fits : e ≤ length l) where
        abbrev value : List ℕ
        value = take (e - (at + 2)) (drop (at + 2) l)

        value_long : length value ≡ e - (at + 2)
        value_long =
            let d : length (drop (at + 2) l) ≡ length l - (at + 2) = length-drop (at + 2) l in
            length-take-le (e - (at + 2)) (drop (at + 2) l) (omega arith)

        left_next : (kind : ℕ → Bool) (b c : Bool) → Left types l at kind b → c ≡ either b (both (types (get_or l at 0)) (kind (get_or l at 0))) → Left types l e kind c
        unfolding of_kind
        left_next kind b c s q =
            s
            ∙ ap (either b) (tlv_here (of_kind types kind) l at _ refl more e end fits _ refl)
            ∙ either_assoc b _ _
            ∙ ap (λ (x : Bool). either x (any_of (of_kind types kind) (tlvs (drop e l)))) (sym q)

        whole_next : corrupt types (tlv (get_or l at 0) value) ≡ false → any_of (corrupt types) (tlvs l) ≡ any_of (corrupt types) (tlvs (drop e l))
        whole_next h = tlv_next (corrupt types) l at _ w.whole more e end fits _ (sym h) refl

        -- skipped by length
        module _ (r : Bool) (said : r ≡ ruled types (get_or l at 0)) (skip : r ≡ false) where
          no_kind : (t : Bool) → types (get_or l at 0) ≡ t → (kind : Bool) → (between 1 8 (get_or l at 0) ≡ false → kind ≡ false) → both t kind ≡ false
          unfolding ruled both
          no_kind true q kind n = n (sym (rw q at (sym skip ∙ said)))
          no_kind false q kind n = refl

          left_skip : (kind : ℕ → Bool) → (between 1 8 (get_or l at 0) ≡ false → kind (get_or l at 0) ≡ false) → (b : Bool) → Left types l at kind b → Left types l e kind b
          left_skip kind none b s = left_next kind b b s (sym (ap (either b) (no_kind (types (get_or l at 0)) refl (kind (get_or l at 0)) none) ∙ either_none b))

          pub walk_skip : Walked types l e f
          unfolding corrupt
          walk_skip = record {
            place = fits;
            whole = whole_next (no_kind (types (get_or l at 0)) refl _ (λ n. ap not (no_rule (get_or l at 0) n (length value))));
            blocks = w.blocks;
            every = left_skip every_kind (no_every (get_or l at 0)) _ w.every;
            vlans = left_skip vlan_kind (no_vlan (get_or l at 0)) _ w.vlans;
            lists = left_skip list_kind (no_list (get_or l at 0)) _ w.lists;
            maps = left_skip map_kind (no_map (get_or l at 0)) _ w.maps;
            macs = left_skip mac_kind (no_mac (get_or l at 0)) _ w.macs;
          }

        -- judged by its rule
        module _ (r : Bool) (said : r ≡ ruled types (get_or l at 0)) (here : r ≡ true) (g : Bool) (rule : g ≡ length_good (get_or l at 0) (e - (at + 2))) where
          implemented : types (get_or l at 0) ≡ true
          unfolding ruled
          implemented = (both_true _ _ (sym said ∙ here)).0

          pub walk_bad : g ≡ false → JudgedTlvs types (tlvs l) (Err PayloadCorrupt)
          unfolding corrupt both
          walk_bad h = bad_is types (tlvs l) (sym (tlv_hit (corrupt types) l at _ w.whole more e end fits true (sym (rw (implemented, value_long, ← rule, h))) refl))

          left_rule : (kind : ℕ → Bool) (b c : Bool) → Left types l at kind b → c ≡ either b (kind (get_or l at 0)) → Left types l e kind c
          unfolding both
          left_rule kind b c s q = left_next kind b c s (rw implemented q)

          pub walk_next : g ≡ true → (n : Kinds) → NotedMore (get_or l at 0) f n → Walked types l e n
          unfolding corrupt both
          walk_next h n m = record {
            place = fits;
            whole = whole_next (rw (implemented, value_long, ← rule, h));
            blocks = m.blocks ∙ w.blocks;
            every = left_rule every_kind _ _ w.every m.every;
            vlans = left_rule vlan_kind _ _ w.vlans m.vlans;
            lists = left_rule list_kind _ _ w.lists m.lists;
            maps = left_rule map_kind _ _ w.maps m.maps;
            macs = left_rule mac_kind _ _ w.macs m.macs;
          }

-- ---- empty TLVs of types without a rule

module _ (l : List ℕ) (from : ℕ) where
  pub pass_start : from ≤ length l → EmptyPassed l from from
  pass_start h = record { order = omega arith; place = h; same = λ test none. refl }

  module _ (at : ℕ) (p : EmptyPassed l from at) where
    pub pass_next : 2 ≤ length l - at → get_or l (at + 1) 0 ≡ 0 → leb 1 (get_or l at 0) && leb (get_or l at 0) 8 ≡ false → EmptyPassed l from (at + 2)
    unfolding between both
    pass_next more empty other =
        let o = p.order in
        let n : get_or (drop at l) 1 0 ≡ 0 = get_or-drop at l 1 0 ∙ empty in
        let none : at + 2 - (at + 2) ≡ 0 = omega arith in
        let unruled : between 1 8 (get_or l at 0) ≡ false = sym (and_both (leb 1 (get_or l at 0)) (leb (get_or l at 0) 8)) ∙ other in
        record {
          order = omega arith;
          place = omega arith;
          same = λ test off.
              p.same test off
              ∙ tlv_next test l at _ refl (omega arith) (at + 2) (omega arith) (omega arith) false (sym (rw none (off (get_or l at 0) unruled))) refl;
        }

    pub walk_passed : (types : Types) (f : Kinds) → Walked types l from f → Walked types l at f
    unfolding corrupt of_kind
    walk_passed types f w = record {
      place = p.place;
      whole = w.whole ∙ p.same (corrupt types) (λ k none. both_right (types k) _ (ap not (no_rule k none 0)));
      blocks = w.blocks;
      every = left every_kind no_every _ w.every;
      vlans = left vlan_kind no_vlan _ w.vlans;
      lists = left list_kind no_list _ w.lists;
      maps = left map_kind no_map _ w.maps;
      macs = left mac_kind no_mac _ w.macs;
    }
      where
        left : (kind : ℕ → Bool) → ((k : ℕ) → between 1 8 k ≡ false → kind k ≡ false) → (b : Bool) → Left types l from kind b → Left types l at kind b
        left kind off b s = s ∙ ap (either b) (p.same (of_kind types kind) (λ k none. both_right (types k) _ (off k none)))

-- ---- the whole payload

checked_bad : (b : Bool) (x : Outcome Payload) → x ≡ Err PayloadCorrupt → check b PayloadCorrupt x ≡ Err PayloadCorrupt
unfolding check
checked_bad true x e = e
checked_bad false x e = refl

failed : (b : Bool) (x : Outcome Payload) → b ≡ false → check b PayloadCorrupt x ≡ Err PayloadCorrupt
unfolding check
failed b x e = rw e

module _ (types : Types) (l : List ℕ) where
  payload_bad : payload_of types l ≡ Err PayloadCorrupt → JudgedPayload types l (Err PayloadCorrupt)
  payload_bad e = record {
    bad = λ r s. let same : PayloadCorrupt ≡ r = cc in e ∙ ap Err same;
    good = λ f s. let z : ◌≡◌ {A = ℕ} 0 1 = cc in absurd (omega arith);
    noted = λ f s. let z : ◌≡◌ {A = ℕ} 0 1 = cc in absurd (omega arith);
  }

  no_front : length l < 2 + nick_bytes l → JudgedPayload types l (Err PayloadCorrupt)
  unfolding payload_of
  no_front h = payload_bad (checked_bad _ _ (checked_bad _ _ (failed _ _ (lt-leb (2 + nick_bytes l) (length l) h))))

  pub judged_short : length l < 2 → JudgedPayload types l (Err PayloadCorrupt)
  judged_short h = no_front (omega arith)

  module _ (k : ℕ) (nicks : k ≡ nick_bytes l) where
    pub judged_nicks : length l < 2 + k → JudgedPayload types l (Err PayloadCorrupt)
    judged_nicks h = no_front (omega arith)

    module _ (room : 2 + k ≤ length l) (n : ℕ) (blocks : n ≡ block_count l) where
      pub judged-cut : length l - (2 + k) < 4 * n → JudgedPayload types l (Err PayloadCorrupt)
      unfolding payload_of
      judged-cut h =
          let d : length (behind l) ≡ length l - (2 + nick_bytes l) = length-drop (2 + nick_bytes l) l in
          payload_bad (checked_bad _ _ (checked_bad _ _ (checked_bad _ _ (failed _ _ (lt-leb (block_bytes * block_count l) (length (behind l)) (omega arith))))))

      module _ (fits : 4 * n ≤ length l - (2 + k)) where
        judged-pieces : payload_of types l ≡ check (not (any_of (corrupt types) (pieces_of (block_count l) (behind l)))) PayloadCorrupt (Ok (made l))
        unfolding payload_of
        judged-pieces =
            let d : length (behind l) ≡ length l - (2 + nick_bytes l) = length-drop (2 + nick_bytes l) l in
            check_pass _ _ _ (le-leb 1 (length l) (omega arith))
            ∙ check_pass _ _ _ (le-leb (1 + nick_bytes l) (length l) (omega arith))
            ∙ check_pass _ _ _ (le-leb (2 + nick_bytes l) (length l) (omega arith))
            ∙ check_pass _ _ _ (le-leb (block_bytes * block_count l) (length (behind l)) (omega arith))

        -- VLAN blocks are not corrupt, and are of no kind
        pub judged_blocks : (n ≡ 0 → ⊥) → (f : Kinds) → Nothing n f → JudgedPayload types l (Ok f)
        unfolding corrupt of_kind check
        judged_blocks some f e =
            let much : block_count l ≡ 0 → ⊥ = λ z. some (blocks ∙ z) in
            let none : (kind : ℕ → Bool) (b : Bool) → b ≡ false → b ≡ any_of (of_kind types kind) (pieces_of (block_count l) (behind l)) = λ kind b q. q ∙ none_brought (of_kind types kind) (block_count l) (behind l) much (λ x. refl) in
            record {
              bad = λ r s. let z : ◌≡◌ {A = ℕ} 0 1 = cc in absurd (omega arith);
              good = λ g s. judged-pieces ∙ rw (← none_brought (corrupt types) (block_count l) (behind l) much (λ x. refl));
              noted = λ g s.
                  let q : f ≡ g = cc in
                  rw (← q)
                  (record {
                    blocks = e.blocks ∙ blocks;
                    every = none every_kind _ e.every;
                    vlans = none vlan_kind _ e.vlans;
                    lists = none list_kind _ e.lists;
                    maps = none map_kind _ e.maps;
                    macs = none mac_kind _ e.macs;
                  });
            }

        pub judged-tlvs : n ≡ 0 → (j : Outcome Kinds) → JudgedTlvs types (tlvs (take (length l - (2 + k)) (drop (2 + k) l))) j → JudgedPayload types l j
        unfolding pieces_of pick check
        judged-tlvs z j t =
            let zero-blocks : block_count l ≡ 0 = sym blocks ∙ z in
            let same : tlvs (take (length l - (2 + k)) (drop (2 + k) l)) ≡ pieces_of (block_count l) (behind l) = rw (rest_is (2 + k) l, nicks, eq-eqb (block_count l) 0 zero-blocks) in
            record {
              bad = λ r s. let b = t.bad r s in judged-pieces ∙ rw (← same, b.1, b.0);
              good = λ f s. judged-pieces ∙ rw (← same, t.good f s);
              noted = λ f s. let n = t.noted f s in rw (← same, zero-blocks) n;
            }
