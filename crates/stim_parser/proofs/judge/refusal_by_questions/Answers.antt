use Rattle.std.proofs.Common.{◌≡◌, ◌||◌, false, None, Some, ap₂, sym, ◌∙◌}
use Rattle.stim_parser.proofs.JudgeLemmas.{read-targets}
use Rattle.stim_parser.proofs.judge.refusal_by_questions.Given.{Over}
use Rattle.stim_parser.proofs.judge.refusal_by_questions.Goals as goal
use Rattle.stim_parser.proofs.judge.refusal_by_questions.Goals.{After-refusal_of_targets}

-- no number is beyond its limit
within : (g : Over) (c : After-refusal_of_targets g) → (c.args.beyond || g.J.Judge.table.has_target_beyond c.args.form c.args.targets.now) ≡ false
within g c = ap₂ (λ a b. a || b) c.if-beyond.false (sym c.has_target_beyond.ensures ∙ c.if-has_target_beyond.false)

pub returns-in-Some : goal.returns-in-Some
returns-in-Some g c =
    sym (read-targets g.J.Judge.table c.args.depth c.args.keyword c.args.beyond c.args.form c.args.text.now c.args.targets.now (Some c.in-Some.cause) (sym c.are_of_form.ensures ∙ c.if-not-are_of_form.false)
    (within g (goal.at.returns-in-Some g c).After-refusal_of_targets)
    (sym c.refusal_of_targets.ensures ∙ c.in-Some.is))

pub returns-in-None : goal.returns-in-None
returns-in-None g c =
    c.refusal_of_block.ensures
    ∙ sym (read-targets g.J.Judge.table c.args.depth c.args.keyword c.args.beyond c.args.form c.args.text.now c.args.targets.now None (sym c.are_of_form.ensures ∙ c.if-not-are_of_form.false)
    (within g (goal.at.returns-in-None g c).After-refusal_of_targets)
    (sym c.refusal_of_targets.ensures ∙ c.in-None.is))
