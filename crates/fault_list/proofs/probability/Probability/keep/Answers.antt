-- The text is put into its bytes between two spaces.
use Rattle.std.proofs.Common.{sym, ap, arith}
use Rattle.step_model.specs.Chances.{Chance}
use Rattle.step_model.proofs.ChanceLaws.{chance_at-get_or}
use Rattle.fault_list.proofs.PutLemmas.{between_spaces}
use Rattle.fault_list.proofs.probability.Probability.keep.Goals as goal

pub invariant_of-self : goal.invariant_of-self
invariant_of-self c =
    let chances = c.self.inside.chances.now in
    record {
      within = omega (arith, c.put_byte-self-inside.ensures.end, c.put_text-end.ensures.end, c.put_byte-end.ensures.end, c.if-text.false);
      text =
          λ there. between_spaces c.put_byte-end.ensures.written c.put_text-end.ensures.written c.put_byte-self-inside.ensures.written
          (ap (λ (chance : Chance). chance.text) (sym (chance_at-get_or chances c.args.number _ there)));
    }
