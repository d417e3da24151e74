-- What ingress accepted, and what it wrote of it.
-- Assumes nothing.
use Prim.Native.Nat.{ℕ, ◌≤◌}
use mathlib.Core.Bool.{true}
use mathlib.Core.List.{List}
use mathlib.Core.Path.{◌≡◌, ap, ◌∙◌}
use lib.ListN.{length, drop}
use borrow.Author.Tests.{leb-true}
use Rattle.numbers.proofs.Answers.{check_got, then_got, got_got}
use Rattle.frame.specs.Labels.{is_tag}
use Rattle.frame.specs.declared.Settings.{Settings}
use Rattle.convert.specs.Claims.{converted}
use Rattle.convert.proofs.Areas.{wrote}
use Rattle.port_map.specs.Maps.{pairs_in, map_good, label_for}
use Rattle.port_map.specs.declared.CampusLabel.{CampusLabel}
use Rattle.ingress.specs.Ingress.{Native, given_good, hops_good, native_of, native_parsed, general_for, judged, ingressing, ingressed}
use Rattle.ingress.specs.declared.Given.{Given}
use Rattle.std.specs.Prelude.{Ok}

pub record NativeIs (f : List ℕ) (n : Native) : Type 0 where
  pub tagged : is_tag (drop 12 f) ≡ true
  pub long : 16 ≤ length f
  pub some : 2 ≤ length (drop 16 f)
  pub same : native_of f ≡ n

pub native_is : (f : List ℕ) (n : Native) → native_parsed f ≡ Ok n → NativeIs f n
unfolding native_parsed
native_is f n q =
    let a = check_got _ _ _ _ q in
    let b = check_got _ _ _ _ a.1 in
    let c = check_got _ _ _ _ b.1 in
    let d = check_got _ _ _ _ c.1 in
    record { tagged = a.0; long = leb-true 16 (length f) b.0; some = leb-true 2 (length (drop 16 f)) d.0; same = got_got _ _ d.1 }

pub record Accepted (m : List ℕ) (u : Given) (f g : List ℕ) : Type 0 where
  pub given : given_good u ≡ true
  pub map-good : map_good m ≡ true
  pub native : Native
  pub native_facts : NativeIs f native
  pub hops : hops_good u ≡ true
  pub label : CampusLabel
  pub found : label_for (pairs_in m) native.vlan ≡ Ok label
  pub bytes : general_for u native label ≡ g

pub accepted : (s : Settings) (m : List ℕ) (u : Given) (f g area : List ℕ) → converted (ingressed s m u f area) ≡ Ok g → Accepted m u f g
unfolding ingressed ingressing judged
accepted s m u f g area e =
    let q = wrote (ingressing s m u f) area g e in
    let a = check_got _ _ _ _ q in
    let b = check_got _ _ _ _ a.1 in
    let c = check_got _ _ _ _ b.1 in
    let (n, nq, r) = then_got _ _ _ c.1 in
    let d = check_got _ _ _ _ nq in
    let h = check_got _ _ _ _ d.1 in
    let (k, kq, w) = then_got _ _ _ h.1 in
    let i = check_got _ _ _ _ w in
    let j = check_got _ _ _ _ i.1 in
    let x = check_got _ _ _ _ j.1 in
    let y = check_got _ _ _ _ x.1 in
    let same : k ≡ n = got_got _ _ y.1 in
    let (l, lq, z) = then_got _ _ _ r in
    record { given = b.0; map-good = c.0; native = n; native_facts = native_is f n (kq ∙ ap Ok same); hops = j.0; label = l; found = lq; bytes = got_got _ _ z }
