use Rattle.std.proofs.Common.{◌+◌, ap, ◌∙◌}
use Rattle.stim_lexer.specs.Reached.{greatest_by}
use Rattle.dem_text.specs.declared.brief.Brief.{Brief}
use Rattle.dem_text.specs.Meanings.{detectors_to, observables_to}
use Rattle.dem_text.specs.Verdicts.{number_in}
use Rattle.dem_text.specs.private.Briefs.{IsBrief}
use Rattle.dem_text.specs.private.Lines.{instruction_read}
use Rattle.dem_text.proofs.KeepingLemmas.{brief-fitting}
use Rattle.dem_text.proofs.PassedLemmas.{folded-one}
use Rattle.dem_text.proofs.front.Front.fold_line.Goals as goal

pub put_stated-requires : goal.put_stated-requires
put_stated-requires g c = c.requires.fits.arguments

pub take-requires-clause-known : goal.take-requires-clause-known
take-requires-clause-known g c =
    let i = instruction_read (c.args.self.now.read + 1) c.args.operation c.args.arguments.now c.args.self.now.targets.items in
    let e = c.brief_of-brief.ensures in
    record {
      instruction = i;
      brief_is =
          brief-fitting i c.brief_of-brief.result c.as_slice-stated.result.now c.requires.fits (ap (λ (b : Brief). b.line) e) (ap (λ (b : Brief). b.operation) e)
          (ap (λ (b : Brief). b.extent.detectors) e ∙ ap (greatest_by detectors_to) c.as_slice-targets.ensures.value)
          (ap (λ (b : Brief). b.extent.observables) e ∙ ap (greatest_by observables_to) c.as_slice-targets.ensures.value)
          (ap (λ (b : Brief). b.amount) e ∙ ap number_in c.as_slice-targets.ensures.value)
          (ap (λ (b : Brief). b.reach) e)
          (c.as_slice-stated.ensures.value ∙ c.put_stated.ensures);
    }

pub returns-clause-folded : goal.returns-clause-folded
returns-clause-folded g c =
    let i = instruction_read (c.args.self.now.read + 1) c.args.operation c.args.arguments.now c.args.self.now.targets.items in
    let e = c.brief_of-brief.ensures in
    let known : IsBrief i c.brief_of-brief.result c.as_slice-stated.result.now =
    brief-fitting i c.brief_of-brief.result c.as_slice-stated.result.now c.requires.fits (ap (λ (b : Brief). b.line) e) (ap (λ (b : Brief). b.operation) e)
    (ap (λ (b : Brief). b.extent.detectors) e ∙ ap (greatest_by detectors_to) c.as_slice-targets.ensures.value)
    (ap (λ (b : Brief). b.extent.observables) e ∙ ap (greatest_by observables_to) c.as_slice-targets.ensures.value)
    (ap (λ (b : Brief). b.amount) e ∙ ap number_in c.as_slice-targets.ensures.value)
    (ap (λ (b : Brief). b.reach) e)
    (c.as_slice-stated.ensures.value ∙ c.put_stated.ensures) in
    folded-one i c.args.self.now _ c.if-self-gt-MOST_LINES.false (λ named f h. c.take.ensures.follows named f i h known c.as_slice-targets.ensures.value) c.take.ensures.sound c.take.ensures.passed
