use Rattle.std.proofs.Common.{◌≡◌, true, List, subst, ◌∙◌}
use Rattle.stim_lexer.specs.Flat.{tree_of}
use Rattle.cursor.specs.Chosen.{chosen_in}
use Rattle.cursor.specs.Places.{left_of}
use Rattle.cursor.proofs.ChosenLemmas.{all_chosen}
use Rattle.dem_text.specs.Texts.{Item}
use Rattle.dem_text.proofs.kept.Kept.start.Goals as goal

pub returns-clause-left : goal.returns-clause-left
returns-clause-left g c =
    subst (λ (is : List Item). left_of (λ i. true) is c.start.result ≡ chosen_in (λ i. true) (tree_of is)) c.self.view_is c.start.ensures.left
    ∙ all_chosen (tree_of c.args.self.now)
