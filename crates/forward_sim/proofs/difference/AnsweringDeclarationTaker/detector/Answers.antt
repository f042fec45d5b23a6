-- The next detector has the answer of its number.
use Rattle.std.proofs.Common.{◌+◌, ap, ap₂, sym, ◌∙◌, arith}
use Rattle.circuit_walk.specs.NamedRecords.{records_in}
use Rattle.forward_sim.specs.private.Answers.{differ_in}
use Rattle.circuit_walk.proofs.DeclaredParts.{detector_fits, next_detector, one_detector}
use Rattle.forward_sim.proofs.AnswerLemmas.{detector_answered, named_fit}
use Rattle.forward_sim.proofs.difference.AnsweringDeclarationTaker.detector.Goals as goal

pub differs-requires : goal.differs-requires
differs-requires g c =
    let n = c.requires.next in
    let fit = named_fit (records_in c.args.records) n.2 (detector_fits c.args.program.now.listing n.1 (records_in c.args.records) n.3 c.well_formed-2.ensures) in
    record { records_fit = fit.0; reference_fit = fit.1 }

pub index_mut-requires : goal.index_mut-requires
index_mut-requires g c =
    let n = c.requires.next in
    omega (arith, n.2.next_is, n.2.answered.size, next_detector c.args.program.now.listing n.1 (records_in c.args.records) n.3)

pub overflow_add-self : goal.overflow_add-self
overflow_add-self g c =
    let n = c.requires.next in
    omega (arith, n.2.next_is, next_detector c.args.program.now.listing n.1 (records_in c.args.records) n.3, c.well_formed-2.ensures.few_detectors)

pub returns : goal.returns
returns g c begun done so_far next =
    let program = c.args.program.now.listing in
    let records = records_in c.args.records in
    let old = c.args.self.now in
    record {
      records_are = so_far.records_are;
      reference_is = so_far.reference_is;
      records_fit = so_far.records_fit;
      reference_fits = so_far.reference_fits;
      next_is = ap (λ k. k + 1) so_far.next_is ∙ sym (one_detector done records);
      detectors_are = so_far.detectors_are;
      answered =
          detector_answered program begun.records.now begun.reference.now done records old.answers.items old.next c.differs.result next so_far.answered so_far.next_is
          (c.differs.ensures ∙ ap₂ (λ a b. differ_in a b records) so_far.records_are so_far.reference_is);
    }
