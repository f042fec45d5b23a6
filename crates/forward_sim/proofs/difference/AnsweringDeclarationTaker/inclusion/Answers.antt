-- The observable is one of the program's, and is numbered behind the detectors.
use Rattle.std.proofs.Common.{◌<◌, ◌+◌, false, length, ap, ap₂, sym, ◌∙◌, arith}
use Rattle.std.proofs.lemmas.List.{get_or_default}
use Rattle.circuit_walk.specs.NamedRecords.{records_in}
use Rattle.pauli_word.specs.Parity.{exclusive_or}
use Rattle.forward_sim.specs.private.Answers.{differ_in}
use Rattle.circuit_walk.proofs.DeclaredParts.{inclusion_fits, next_observable, no_detector}
use Rattle.forward_sim.proofs.AnswerLemmas.{inclusion_answered, named_fit}
use Rattle.forward_sim.proofs.ExclusiveOrs.{exclusive_or_is}
use Rattle.forward_sim.proofs.difference.AnsweringDeclarationTaker.inclusion.Goals as goal

pub differs-requires : goal.differs-requires
differs-requires g c =
    let n = c.requires.next in
    let fit = named_fit (records_in c.args.records) n.2 (inclusion_fits c.args.program.now.listing n.1 (records_in c.args.records) c.args.observable n.3 c.well_formed-2.ensures) in
    record { records_fit = fit.0; reference_fit = fit.1 }

pub overflow_add-number : goal.overflow_add-number
overflow_add-number g c =
    let n = c.requires.next in
    let fits = c.well_formed-2.ensures in
    omega (arith, n.2.detectors_are, next_observable c.args.program.now.listing n.1 (records_in c.args.records) c.args.observable n.3, fits.few_detectors, fits.few_observables)

pub index-before-requires : goal.index-before-requires
index-before-requires g c =
    let n = c.requires.next in
    omega (arith, n.2.detectors_are, n.2.answered.size, next_observable c.args.program.now.listing n.1 (records_in c.args.records) c.args.observable n.3)

pub index_mut-requires : goal.index_mut-requires
index_mut-requires g c =
    let n = c.requires.next in
    omega (arith, n.2.detectors_are, n.2.answered.size, next_observable c.args.program.now.listing n.1 (records_in c.args.records) c.args.observable n.3)

pub returns : goal.returns
returns g c begun done so_far next =
    let program = c.args.program.now.listing in
    let records = records_in c.args.records in
    let old = c.args.self.now in
    let number = old.detectors + c.args.observable in
    let within : number < length old.answers.items = omega (arith, so_far.detectors_are, so_far.answered.size, next_observable program done records c.args.observable next) in
    let before = c.index-before.ensures ∙ get_or_default old.answers.items number _ false within in
    let flips = differ_in begun.records.now begun.reference.now records in
    let differ = c.differs.ensures ∙ ap₂ (λ a b. differ_in a b records) so_far.records_are so_far.reference_is in
    record {
      records_are = so_far.records_are;
      reference_is = so_far.reference_is;
      records_fit = so_far.records_fit;
      reference_fits = so_far.reference_fits;
      next_is = so_far.next_is ∙ sym (ap length (no_detector done c.args.observable records));
      detectors_are = so_far.detectors_are;
      answered =
          inclusion_answered program begun.records.now begun.reference.now done c.args.observable records old.answers.items number _ next so_far.answered
          (ap (λ n. n + c.args.observable) so_far.detectors_are)
          (exclusive_or_is c.index-before.result.now c.differs.result flips differ ∙ ap (λ b. exclusive_or b flips) before);
    }
