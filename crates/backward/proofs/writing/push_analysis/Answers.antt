use Rattle.std.proofs.Common.{inl, refl, subst, ◌∙◌}
use Rattle.std.proofs.lemmas.Result.{err_from_is_err_and}
use Rattle.backward.specs.private.Segments.{AreWhole}
use Rattle.backward.proofs.AnswerLemmas.{failed_answer}
use Rattle.backward.proofs.StepLemmas.{passed_as}
use Rattle.backward.proofs.writing.push_analysis.Goals as goal

pub returns-in_err-found : goal.returns-in_err-found
returns-in_err-found g c = failed_answer (err_from_is_err_and c.from_residual.result c.from_residual.ensures.1).1 (inl (refl, refl))

pub returns-in_err-lines : goal.returns-in_err-lines
returns-in_err-lines g c = failed_answer (err_from_is_err_and c.from_residual-in_err-lines.result c.from_residual-in_err-lines.ensures.1).1 (inl (refl, refl))

pub returns-in_err-parts : goal.returns-in_err-parts
returns-in_err-parts g c = failed_answer (err_from_is_err_and c.from_residual-in_err-parts.result c.from_residual-in_err-parts.ensures.1).1 (inl (refl, refl))

pub cut_whole-requires-clause-passed : goal.cut_whole-requires-clause-passed
cut_whole-requires-clause-passed g c = passed_as c.end.ensures.place c.requires c.in_ok-found.ensures.passed

pub push_parts-requires-clause-parts : goal.push_parts-requires-clause-parts
push_parts-requires-clause-parts g c =
    subst (λ k. AreWhole c.args.program.now k c.cut_whole.new.found.known c.in_ok-parts.parts) c.end.ensures.place c.in_ok-parts.ensures.whole

pub push_parts-requires-clause-passed : goal.push_parts-requires-clause-passed
push_parts-requires-clause-passed g c = c.in_ok-parts.ensures.passed

pub push_parts-requires-clause-first : goal.push_parts-requires-clause-first
push_parts-requires-clause-first g c = c.cut_whole.ensures.settled ∙ c.in_ok-found.ensures.first

pub push_parts-requires-clause-store : goal.push_parts-requires-clause-store
push_parts-requires-clause-store g c = c.cut_whole.ensures.store ∙ c.in_ok-lines.ensures.program
