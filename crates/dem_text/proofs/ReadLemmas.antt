-- The model of a text, put together from what was read of it.
use Rattle.std.proofs.Common.{◌≡◌, ℕ, false, List, None, Result, Ok, Err, refl, ap, ◌∙◌}
use Rattle.std.specs.Prelude.{IfOk}
use Rattle.step_model.specs.declared.fault.Fault.{Fault}
use Rattle.step_model.specs.ErrorModels.{ErrorModel}
use Rattle.step_model.specs.Faults.{◌>>=◌}
use Rattle.dem_text.specs.private.Flat.{tree_of, tree_of-items}
use Rattle.dem_text.specs.Texts.{Item}
use Rattle.dem_text.specs.Meanings.{meaning_of}
use Rattle.dem_text.specs.Models.{first_beyond, model_in, model_of_tree, placed_lines}
use Rattle.dem_text.specs.Reached.{has_many_lines}
use Rattle.dem_text.specs.Trees.{Tree}
use Rattle.dem_text.specs.Judged.{IsRefusedBy, Writes}

-- ---- the model of a tree

pub whole-model : (t : Tree) (m : ErrorModel) → has_many_lines t ≡ false → first_beyond (placed_lines t) ≡ None → m ≡ meaning_of (placed_lines t) → model_of_tree t ≡ Ok m
whole-model t m e near is = rw (e, near, is) refl

-- ---- the model of a text

abbrev model_of_read : Result (List Item) Fault → Result ErrorModel Fault
model_of_read found = found >>= (λ items. model_of_tree (tree_of items))

pub written-model : (text : List ℕ) (t : Tree) → Writes text t → model_in text ≡ model_of_tree t
written-model text t w = ap model_of_read w ∙ ap (λ u. model_of_tree u) (tree_of-items t)

pub refused-text : (text : List ℕ) (f : Fault) → IsRefusedBy text f → model_in text ≡ Err f
refused-text text f r = ap model_of_read r

pub read-model : (text : List ℕ) (t : Tree) (m : ErrorModel) → Writes text t → model_of_tree t ≡ Ok m → model_in text ≡ Ok m
read-model text t m w e = written-model text t w ∙ e

-- what two clauses say of an answer together
pub both-ok : {X E : Type 0} (P Q R : X → Type 0) → ((x : X) → P x → Q x → R x) → (r : Result X E) → IfOk r P → IfOk r Q → IfOk r R
both-ok P Q R both (Ok x) p q = both x p q
both-ok P Q R both (Err e) p q = tt
