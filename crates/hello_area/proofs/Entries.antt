-- Entries of each type, taken in one shape, are those of the contents with their tests and their sub-TLVs.
-- Assumes nothing.
use Prim.Native.Nat.{ℕ, zero, suc}
use mathlib.Core.Bool.{Bool, true, false}
use mathlib.Core.List.{List, [], ◌∷◌, ◌++◌, map, flat_map}
use mathlib.Core.Path.{◌≡◌, refl, sym, ap, ◌∙◌}
use lib.Dec.{leb}
use lib.ListN.{length}
use Rattle.numbers.specs.Tests.{pick, both, either, all_of}
use Rattle.numbers.specs.Bytes.{bytes_of}
use Rattle.numbers.specs.Result.{Outcome, check, and_then}
use Rattle.numbers.proofs.Answers.{got_got, then_got}
use Rattle.hello.specs.Pieces.{Sub}
use Rattle.hello.specs.Contents.{Nickname, SmartMac}
use Rattle.hello.specs.Writing.{within, parameters_good, nickname_good, nicknames_good, trees_good, smart_mac_good, nickname_bytes, parameters_sub, nicknames_sub, trees_sub, smart_mac_sub}
use Rattle.hello.specs.Area.{Taken, Taker, taken, take_one, then, take_many, take_counted, take_parameters, take_nickname, take_trees, take_smart_mac}
use Rattle.hello_area.specs.Entries.{via, take_label, label_good, label_bytes, parameters_bytes, take_head, take_item, take_list, take_sub}
use Rattle.hello_area.proofs.Takers.{Only, only_many, only_one, only_nickname, only_counted, then-then, then_same, check-check, after_check, many_via}
use Rattle.std.specs.Prelude.{Ok, Err}
use Rattle.numbers.specs.declared.refusals.Refusal.TheVariants.{HelloMalformed}
use Rattle.numbers.specs.declared.refusals.Refusal.{Refusal}

check_refused : {A : Type 0} (b : Bool) (n : Refusal) → n ≡ HelloMalformed → check {A = A} b HelloMalformed (Err n) ≡ Err n
unfolding check
check_refused true n e = refl
check_refused false n e = ap Err (sym e)

-- ---- what is taken, in another form

map_pass : {B C : Type 0} (b : Bool) (y : B) (h : B → C) (r : List ℕ) → and_then (check b HelloMalformed (taken y r)) (λ t. taken (h t.value) t.rest) ≡ check b HelloMalformed (taken (h y) r)
unfolding and_then check
map_pass true y h r = refl
map_pass false y h r = refl

pub via-map : {A B C : Type 0} (p : Taker A) (g : A → Bool) (f : A → B) (h : B → C) (l : List ℕ) → and_then (via p g f l) (λ t. taken (h t.value) t.rest) ≡ via p g (λ x. h (f x)) l
unfolding via
via-map p g f h l = then-then (p l) _ _ ∙ then_same (p l) _ _ (λ t. map_pass (g t.value) (f t.value) h t.rest)

-- ---- two parts

module _ {A B C D E : Type 0} (g : A → Bool) (f : A → C) (p : Taker B) (o : Only p) (g' : B → Bool) (f' : B → D) (h : C → D → E) where
  unfoldable pub Pair : A → Outcome (Taken B) → Outcome (Taken E)
  Pair x r = and_then r λ u. check (both (g x) (g' u.value)) HelloMalformed (taken (h (f x) (f' u.value)) u.rest)

  pair_got : (b c : Bool) (x : A) (y : B) (l r : List ℕ)
      → and_then (check b HelloMalformed (taken (f x) l)) (λ s. and_then (check c HelloMalformed (taken (f' y) r)) λ u. taken (h s.value u.value) u.rest) ≡ check (both b c) HelloMalformed (taken (h (f x) (f' y)) r)
  unfolding and_then check both
  pair_got true true x y l r = refl
  pair_got true false x y l r = refl
  pair_got false c x y l r = refl

  pair_refused : (b : Bool) (x : A) (l : List ℕ) (m : Refusal) → m ≡ HelloMalformed → (z : Outcome (Taken D)) → z ≡ Err m
      → and_then (check b HelloMalformed (taken (f x) l)) (λ s. and_then z λ u. taken (h s.value u.value) u.rest) ≡ Err m
  unfolding and_then check
  pair_refused true x l m e z q = rw q
  pair_refused false x l m e z q = ap Err (sym e)

  pair_front : (x : A) (l : List ℕ) (r : Outcome (Taken B)) → ((m : Refusal) → r ≡ Err m → m ≡ HelloMalformed)
      → and_then (check (g x) HelloMalformed (taken (f x) l)) (λ s. and_then (and_then r λ t. check (g' t.value) HelloMalformed (taken (f' t.value) t.rest)) λ u. taken (h s.value u.value) u.rest) ≡ Pair x r
  unfolding and_then Pair
  pair_front x l (Err m) only = pair_refused (g x) x l m (only m refl) (Err m) refl
  pair_front x l (Ok t) only = pair_got (g x) (g' t.value) x t.value l t.rest

  -- of takers that are tested, and joined
  pub pair_at_lem : (q : Taker A) (l : List ℕ) (k : Outcome (Taken E)) → k ≡ and_then (q l) (λ t. Pair t.value (p t.rest))
      → and_then (via q g f l) (λ s. and_then (via p g' f' s.rest) λ u. taken (h s.value u.value) u.rest) ≡ k
  unfolding via
  pair_at_lem q l k e =
      then-then (q l) _ _
      ∙ then_same (q l) _ _ (λ t. after_check (g t.value) _ _ _ refl ∙ pair_front t.value t.rest (p t.rest) (λ m e. o t.rest m e))
      ∙ sym e

  pub pair_via : (q : Taker A) (k : Taker E) → ((l : List ℕ) → k l ≡ and_then (q l) λ t. Pair t.value (p t.rest)) → (l : List ℕ)
      → and_then (via q g f l) (λ s. and_then (via p g' f' s.rest) λ u. taken (h s.value u.value) u.rest) ≡ k l
  pair_via q k e l = pair_at_lem q l (k l) (e l)

-- ---- a list behind its count

pub many_length : {A : Type 0} (p : Taker A) (n : ℕ) (l : List ℕ) (t : Taken (List A)) → take_many p n l ≡ Ok t → length t.value ≡ n
unfolding take_many then
many_length p zero l t e = sym (ap (λ (s : Taken (List _)). length s.value) (got_got (record { value = []; rest = l }) t e))
many_length p (suc n) l t e =
    let a = then_got (p l) _ t e in
    let b = then_got (take_many p n a.0.rest) _ t a.2 in
    let c = many_length p n a.0.rest b.0 b.1 in
    sym (ap (λ (s : Taken (List _)). length s.value) (got_got (record { value = a.0.value ∷ b.0.value; rest = b.0.rest }) t b.2)) ∙ ap suc c

joined-map : {A : Type 0} (f : A → List ℕ) (xs : List A) → flat_map (λ (b : List ℕ). b) (map f xs) ≡ flat_map f xs
unfolding flat_map
joined-map f [] = refl
joined-map f (x ∷ xs) = rw (joined-map f xs)

module _ {A : Type 0} (p : Taker A) (o : Only p) (g : A → Bool) (f : A → List ℕ) (most : ℕ) where
  ListGood : List A → Bool
  ListGood xs = both (leb (length xs) most) (all_of g xs)

  items-made : (m : ℕ) (l : List ℕ) (z : Outcome (Taken (List A))) → take_many p m l ≡ z
      → check (leb m most) HelloMalformed (and_then (and_then z λ t. check (all_of g t.value) HelloMalformed (taken (map f t.value) t.rest)) λ t. taken (flat_map (λ (b : List ℕ). b) t.value) t.rest)
      ≡ and_then z (λ t. check (ListGood t.value) HelloMalformed (taken (flat_map f t.value) t.rest))
  unfolding and_then ListGood
  items-made m l (Err n) e = check_refused (leb m most) n (only_many p o m l n e)
  items-made m l (Ok t) e =
      ap (check (leb m most) HelloMalformed) (map_pass (all_of g t.value) (map f t.value) (flat_map (λ (b : List ℕ). b)) t.rest)
      ∙ check-check (leb m most) (all_of g t.value) _
      ∙ rw (many_length p m l t e, joined-map f t.value)

  list_via : (l : List ℕ) → and_then (take_one l) (λ s. check (leb s.value most) HelloMalformed (and_then (take_many (via p g f) s.value s.rest) λ t. taken (flat_map (λ (b : List ℕ). b) t.value) t.rest)) ≡ via (take_counted p) ListGood (flat_map f) l
  unfolding via take_counted then
  list_via l =
      then_same (take_one l) _ _ (λ s. ap (λ (z : Outcome (Taken (List (List ℕ)))). check (leb s.value most) HelloMalformed (and_then z λ t. taken (flat_map (λ (b : List ℕ). b) t.value) t.rest)) (many_via p g f o s.value s.rest) ∙ items-made s.value s.rest (take_many p s.value s.rest) refl)
      ∙ sym (then-then (take_one l) _ _)

-- ---- each type

item_6 : (l : List ℕ) (n : ℕ) → take_many (take_item 6) n l ≡ take_many (via take_nickname nickname_good nickname_bytes) n l
unfolding take_item pick
item_6 l n = refl

nicknames_good_lem : (r : List Nickname) → ListGood take_nickname only_nickname nickname_good nickname_bytes 49 r ≡ nicknames_good r
unfolding ListGood nicknames_good
nicknames_good_lem r = refl

pub sub_22 : (l : List ℕ) → take_sub 22 l ≡ via take_parameters parameters_good parameters_sub l
unfolding take_sub take_head pick either then parameters_bytes parameters_sub
sub_22 l = via-map take_parameters parameters_good parameters_bytes (λ (v : List ℕ). record { holder = 251; kind = 22; value = v }) l

list_6 : (l : List ℕ) → take_list 6 l ≡ via (take_counted take_nickname) nicknames_good (flat_map nickname_bytes) l
unfolding take_list take_item pick then ListGood nicknames_good
list_6 l = list_via take_nickname only_nickname nickname_good nickname_bytes 49 l

list_8 : (l : List ℕ) → take_list 8 l ≡ via (take_counted take_one) (λ ns. both (leb (length ns) 123) (all_of (within 2) ns)) (flat_map (bytes_of 2)) l
unfolding take_list take_item pick then ListGood
list_8 l = list_via take_one only_one (within 2) (bytes_of 2) 123 l

list_23 : (l : List ℕ) → take_list 23 l ≡ via (take_counted take_one) (λ ns. both (leb (length ns) 41) (all_of (within 6) ns)) (flat_map (bytes_of 6)) l
unfolding take_list take_item pick then ListGood
list_23 l = list_via take_one only_one (within 6) (bytes_of 6) 41 l

head_6 : (l : List ℕ) → take_sub 6 l ≡ and_then (take_list 6 l) λ b. taken (record { holder = 242; kind = 6; value = b.value }) b.rest
unfolding take_sub take_head pick either then and_then
head_6 l = refl

pub sub_6 : (l : List ℕ) → take_sub 6 l ≡ via (take_counted take_nickname) nicknames_good nicknames_sub l
unfolding nicknames_sub
sub_6 l =
    head_6 l
    ∙ ap (λ (z : Outcome (Taken (List ℕ))). and_then z λ b. taken (record { holder = 242; kind = 6; value = b.value }) b.rest) (list_6 l)
    ∙ via-map (take_counted take_nickname) nicknames_good (flat_map nickname_bytes) (λ (v : List ℕ). record { holder = 242; kind = 6; value = v }) l

-- a head and a list
abbrev sub_with : ℕ → ℕ → List ℕ → Sub
sub_with h k v = record { holder = h; kind = k; value = v }

list_as : (k n : ℕ) (q : Taker (List ℕ)) → ((l : List ℕ) → take_list k l ≡ q l) → (z : Outcome (Taken (List ℕ)))
    → and_then z (λ h. and_then (take_list k h.rest) λ b. taken (sub_with n k (h.value ++ b.value)) b.rest) ≡ and_then z (λ h. and_then (q h.rest) λ b. taken (sub_with n k (h.value ++ b.value)) b.rest)
list_as k n q e z = then_same z _ _ (λ h. ap (λ (y : Outcome (Taken (List ℕ))). and_then y λ b. taken (sub_with n k (h.value ++ b.value)) b.rest) (e h.rest))

head_8 : (l : List ℕ) → take_sub 8 l ≡ and_then (via take_one (within 2) (bytes_of 2) l) λ h. and_then (take_list 8 h.rest) λ b. taken (sub_with 242 8 (h.value ++ b.value)) b.rest
unfolding take_sub take_head pick either then
head_8 l = refl

head_23 : (l : List ℕ) → take_sub 23 l ≡ and_then (via take_label label_good label_bytes l) λ h. and_then (take_list 23 h.rest) λ b. taken (sub_with 251 23 (h.value ++ b.value)) b.rest
unfolding take_sub take_head pick either then
head_23 l = refl

pub got_then : {X Y : Type 0} (x : X) (k : X → Outcome Y) → and_then (Ok x) k ≡ k x
unfolding and_then
got_then x k = refl

trees_pair : (l : List ℕ) → via take_trees trees_good trees_sub l ≡ and_then (take_one l) λ t. Pair (within 2) (bytes_of 2) (take_counted take_one) (only_counted take_one only_one) (λ ns. both (leb (length ns) 123) (all_of (within 2) ns)) (flat_map (bytes_of 2)) (λ a b. sub_with 242 8 (a ++ b)) t.value (take_counted take_one t.rest)
unfolding via take_trees then Pair trees_good trees_sub
trees_pair l = then-then (take_one l) _ _ ∙ then_same (take_one l) _ _ (λ t. then-then (take_counted take_one t.rest) _ _ ∙ then_same (take_counted take_one t.rest) _ _ (λ u. got_then _ _))

pub sub_8 : (l : List ℕ) → take_sub 8 l ≡ via take_trees trees_good trees_sub l
sub_8 l =
    head_8 l
    ∙ list_as 8 242 _ list_8 (via take_one (within 2) (bytes_of 2) l)
    ∙ pair_via (within 2) (bytes_of 2) (take_counted take_one) (only_counted take_one only_one) (λ ns. both (leb (length ns) 123) (all_of (within 2) ns)) (flat_map (bytes_of 2)) (λ a b. sub_with 242 8 (a ++ b)) take_one (via take_trees trees_good trees_sub) trees_pair l

both_assoc : (a b c d : Bool) → both a (both b (both c d)) ≡ both (both a (both b c)) d
unfolding both
both_assoc true true c d = refl
both_assoc true false c d = refl
both_assoc false b c d = refl

mac_label : (l : List ℕ) → take_smart_mac l ≡ and_then (take_label l) λ t. and_then (take_counted take_one t.rest) λ u. taken (record { fine = t.value.fine; multihomed = t.value.multihomed; label = t.value.number; macs = u.value }) u.rest
unfolding take_smart_mac take_label then take_one and_then
mac_label [] = refl
mac_label (a ∷ []) = refl
mac_label (a ∷ (b ∷ [])) = refl
mac_label (a ∷ (b ∷ (c ∷ l))) = refl

mac_pair : (l : List ℕ) → via take_smart_mac smart_mac_good smart_mac_sub l ≡ and_then (take_label l) λ t. Pair label_good label_bytes (take_counted take_one) (only_counted take_one only_one) (λ ns. both (leb (length ns) 41) (all_of (within 6) ns)) (flat_map (bytes_of 6)) (λ a b. sub_with 251 23 (a ++ b)) t.value (take_counted take_one t.rest)
unfolding via Pair smart_mac_good smart_mac_sub label_good label_bytes
mac_pair l =
    ap (λ (z : Outcome (Taken SmartMac)). and_then z λ t. check (smart_mac_good t.value) HelloMalformed (taken (smart_mac_sub t.value) t.rest)) (mac_label l)
    ∙ then-then (take_label l) _ _
    ∙ then_same (take_label l) _ _ (λ t. then-then (take_counted take_one t.rest) _ _ ∙ then_same (take_counted take_one t.rest) _ _ (λ u. got_then _ _ ∙ rw (both_assoc (leb t.value.fine 1) (leb t.value.multihomed 1))))

pub sub_23 : (l : List ℕ) → take_sub 23 l ≡ via take_smart_mac smart_mac_good smart_mac_sub l
sub_23 l =
    head_23 l
    ∙ list_as 23 251 _ list_23 (via take_label label_good label_bytes l)
    ∙ pair_via label_good label_bytes (take_counted take_one) (only_counted take_one only_one) (λ ns. both (leb (length ns) 41) (all_of (within 6) ns)) (flat_map (bytes_of 6)) (λ a b. sub_with 251 23 (a ++ b)) take_label (via take_smart_mac smart_mac_good smart_mac_sub) mac_pair l

-- ---- sections

many_same : {A : Type 0} (p q : Taker A) → ((l : List ℕ) → p l ≡ q l) → (n : ℕ) (l : List ℕ) → take_many p n l ≡ take_many q n l
unfolding take_many then
many_same p q h zero l = refl
many_same p q h (suc n) l =
    ap (λ (z : Outcome (Taken _)). and_then z λ s. and_then (take_many p n s.rest) λ u. taken (s.value ∷ u.value) u.rest) (h l)
    ∙ then_same (q l) _ _ (λ s. ap (λ (z : Outcome (Taken (List _))). and_then z λ u. taken (s.value ∷ u.value) u.rest) (many_same p q h n s.rest))

pub section-via : {A : Type 0} (k : ℕ) (p : Taker A) (g : A → Bool) (f : A → Sub) → Only p → ((l : List ℕ) → take_sub k l ≡ via p g f l) → (l : List ℕ) → take_counted (take_sub k) l ≡ via (take_counted p) (all_of g) (map f) l
unfolding take_counted then via
section-via k p g f o h l =
    then_same (take_one l) _ _ (λ s. many_same (take_sub k) (via p g f) h s.value s.rest ∙ many_via p g f o s.value s.rest)
    ∙ sym (then-then (take_one l) _ _)
