use Rattle.std.proofs.Common.{ap, subst, ◌∙◌}
use Rattle.std.specs.Prelude.{nat_abs}
use Rattle.stim_lexer.specs.Reached.{greatest_by}
use Rattle.dem_text.specs.declared.brief.Brief.{Brief}
use Rattle.dem_text.specs.Verdicts.{Instruction}
use Rattle.dem_text.specs.private.Briefs.{IsBrief}
use Rattle.dem_text.proofs.KeepingLemmas.{accepted-fits, accepted-is, brief-fitting}
use Rattle.dem_text.proofs.kept.known_in.Goals as goal

pub brief_of-requires : goal.brief_of-requires
brief_of-requires c = (accepted-fits c.args.line c.requires.0 c.args.said c.args.targets.now _ _ c.requires.1 c.in-Accepts.is).targets_within

pub put_stated-requires : goal.put_stated-requires
put_stated-requires c = (accepted-fits c.args.line c.requires.0 c.args.said c.args.targets.now _ _ c.requires.1 c.in-Accepts.is).arguments

pub returns-in-Accepts : goal.returns-in-Accepts
returns-in-Accepts c i e =
    subst (λ (j : Instruction). IsBrief j c.brief_of.result c.put_stated.new.found.items)
    (accepted-is c.args.line c.args.said c.args.targets.now c.in-Accepts.operation c.in-Accepts.arguments i c.in-Accepts.is e)
    (brief-fitting _ c.brief_of.result c.put_stated.new.found.items
    (accepted-fits c.args.line c.requires.0 c.args.said c.args.targets.now _ _ c.requires.1 c.in-Accepts.is)
    (ap (λ (b : Brief). b.line) c.brief_of.ensures)
    (ap (λ (b : Brief). b.operation) c.brief_of.ensures)
    (ap (λ (b : Brief). b.extent.detectors) c.brief_of.ensures)
    (ap (λ (b : Brief). b.extent.observables) c.brief_of.ensures)
    (ap (λ (b : Brief). b.amount) c.brief_of.ensures)
    (ap (λ (b : Brief). b.reach) c.brief_of.ensures ∙ ap (greatest_by nat_abs) c.as_slice.ensures.value)
    c.put_stated.ensures)
