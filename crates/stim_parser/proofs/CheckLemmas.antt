-- The questions of arguments, asked of texts that are lent.
use Rattle.std.proofs.Common.{◌≡◌, ℕ, Bool, true, false, not, ◌&&◌, ◌||◌, List, [], ◌∷◌, length, Bor, refl, ap, ◌∙◌}
use Rattle.std.specs.List.{list_all, list_any}
use Rattle.std.proofs.lemmas.List.{length-map}
use Rattle.std.proofs.lemmas.List.Folds.{list_all-map}
use Rattle.stim_parser.specs.declared.forms.ArgumentForm.{ArgumentForm}
use Rattle.stim_parser.specs.Limits.{has_wrong_arguments, has_wrong_probability, is_argument, is_probability, is_wrong_count, takes_probability}
use Rattle.stim_parser.specs.Rows.{texts_of}

pub wrong_count : (form : ArgumentForm) (lent : List (Bor (List ℕ))) → is_wrong_count form (length lent) ≡ true → has_wrong_arguments form (texts_of lent) ≡ true
unfolding has_wrong_arguments
wrong_count form lent e =
    ap (λ b. b || not (list_all (is_argument form) (texts_of lent))) (ap (is_wrong_count form) (length-map lent (λ text. text.now)) ∙ e)

pub right_count : (form : ArgumentForm) (lent : List (Bor (List ℕ))) → is_wrong_count form (length lent) ≡ false
    → has_wrong_arguments form (texts_of lent) ≡ not (list_all (λ argument. is_argument form argument.now) lent)
unfolding has_wrong_arguments
right_count form lent e =
    ap (λ b. b || not (list_all (is_argument form) (texts_of lent))) (ap (is_wrong_count form) (length-map lent (λ text. text.now)) ∙ e)
    ∙ ap not (list_all-map (is_argument form) (λ text. text.now) lent)

pub wrong_probability : (form : ArgumentForm) (lent : List (Bor (List ℕ))) (b : Bool) → takes_probability form ≡ b
    → has_wrong_probability form (texts_of lent) ≡ (b && not (list_all (λ argument. is_probability argument.now) lent))
unfolding has_wrong_probability
wrong_probability form lent b e =
    ap (λ takes. takes && not (list_all is_probability (texts_of lent))) e
    ∙ ap (λ all. b && not all) (list_all-map is_probability (λ text. text.now) lent)

pub any_lent : (p : List ℕ → Bool) (lent : List (Bor (List ℕ))) → list_any p (texts_of lent) ≡ list_any (λ argument. p argument.now) lent
any_lent p [] = refl
any_lent p (text ∷ lent) = ap (λ b. p text.now || b) (any_lent p lent)
