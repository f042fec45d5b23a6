use Rattle.std.proofs.Common.{[], ◌∷◌, ◌++◌, ap, ◌∙◌, append_assoc}
use Rattle.std.specs.Prelude.{codes}
use Rattle.dem_text.proofs.error_line.begun.Goals as goal

pub returns : goal.returns
returns c =
    let head = c.in_ok-head.head in
    let rest = c.in_ok-rest.rest.now in
    record {
      text_is = c.in_ok-rest.ensures ∙ ap (λ bs. bs ++ rest) head.begins ∙ ap (λ bs. codes "error(" ++ bs) (append_assoc head.arguments.now (41 ∷ []) rest);
      quiet = head.quiet;
      right = head.right;
    }
