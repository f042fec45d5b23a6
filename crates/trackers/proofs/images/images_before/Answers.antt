use Rattle.std.proofs.Common.{◌≡◌, ap, ap₂, ◌∙◌}
use Rattle.gate_table.specs.Images.{image2, inverse_of}
use Rattle.pauli_word.specs.declared.letter.Letter.TheVariants.{I, X, Z}
use Rattle.trackers.proofs.GateLemmas.{arity_kept}
use Rattle.trackers.proofs.images.images_before.Goals as goal

pub image2-xa-requires : goal.image2-xa-requires
image2-xa-requires c = arity_kept c.args.gate c.inverse-inverse.result c.inverse-inverse.ensures c.requires

pub image2-za-requires : goal.image2-za-requires
image2-za-requires c = arity_kept c.args.gate c.inverse-inverse.result c.inverse-inverse.ensures c.requires

pub image2-xb-requires : goal.image2-xb-requires
image2-xb-requires c = arity_kept c.args.gate c.inverse-inverse.result c.inverse-inverse.ensures c.requires

pub image2-zb-requires : goal.image2-zb-requires
image2-zb-requires c = arity_kept c.args.gate c.inverse-inverse.result c.inverse-inverse.ensures c.requires

pub returns : goal.returns
returns c =
    let xa : c.image2-xa.result ≡ image2 (inverse_of c.args.gate) X I = c.image2-xa.ensures ∙ ap (λ h. image2 h X I) c.inverse-inverse.ensures in
    let za : c.image2-za.result ≡ image2 (inverse_of c.args.gate) Z I = c.image2-za.ensures ∙ ap (λ h. image2 h Z I) c.inverse-inverse.ensures in
    let xb : c.image2-xb.result ≡ image2 (inverse_of c.args.gate) I X = c.image2-xb.ensures ∙ ap (λ h. image2 h I X) c.inverse-inverse.ensures in
    let zb : c.image2-zb.result ≡ image2 (inverse_of c.args.gate) I Z = c.image2-zb.ensures ∙ ap (λ h. image2 h I Z) c.inverse-inverse.ensures in
    record {
      first_own = ap₂ (λ x z. (x.0, z.0)) xa za;
      first_other = ap₂ (λ x z. (x.0, z.0)) xb zb;
      second_own = ap₂ (λ x z. (x.1, z.1)) xb zb;
      second_other = ap₂ (λ x z. (x.1, z.1)) xa za;
    }
