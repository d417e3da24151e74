-- `receive_decide::read_values` meets its contract: each value is read within its part.
use Prim.Native.Nat.{ℕ, ◌/◌, ◌%◌, ◌^◌}
use mathlib.Core.List.{List}
use mathlib.Core.Path.{ap, ◌∙◌}
use native.Mathlib.Omega.{arith}
use Rattle.frame_parse.specs.declared.Parts.{Parts}
use Rattle.frame_parse.proofs.Located.{header_word}
use Rattle.receive_decide.proofs.read_values.Goals as goal

pub returns : goal.returns
returns c =
    let f : List ℕ = c.args.f.now in
    let p : Parts = c.args.p in
    record {
      multicast = c.multicast.ensures ∙ ap (λ (w : ℕ). w / 2 ^ 11 % 2 ^ 1) (header_word f p c.requires 0 (omega arith));
      hops = c.hop_count.ensures ∙ ap (λ (w : ℕ). w % 2 ^ 6) (header_word f p c.requires 0 (omega arith));
      egress = c.egress.ensures ∙ header_word f p c.requires 2 (omega arith);
      ingress = c.ingress.ensures.0 ∙ header_word f p c.requires 4 (omega arith);
      dst = c.be6.ensures.0;
      src = c.be6-2.ensures.0;
      ingress_fits = c.ingress.ensures.1;
      src_fits = c.be6-2.ensures.1;
    }
