use Rattle.std.proofs.Common.{[], ◌∷◌, ◌++◌, ap, ◌∙◌, sym, append_assoc}
use Rattle.std.specs.Prelude.{codes}
use Rattle.dem_text.proofs.error_line.head_in.Goals as goal

pub invariant_of-result-clause-begins : goal.invariant_of-result-clause-begins
invariant_of-result-clause-begins c =
    let arguments = c.cut_at.result.0.now in
    let rest = c.in_ok-rest.rest.now in
    c.up_to-beginning.ensures (codes "error(" ++ (arguments ++ 41 ∷ []))
    (c.in_ok-rest.ensures ∙ ap (λ bs. codes "error(" ++ bs) (sym (append_assoc arguments (41 ∷ []) rest)))
