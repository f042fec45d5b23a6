-- What stood between the parentheses of a line, and the form that was asked of it. (This project's own.)
use Rattle.std.specs.Prelude.{ℕ, List}
use Rattle.stim_parser.specs.declared.forms.ArgumentForm.{ArgumentForm}

pub record Parentheses : Type 0 where
  pub form : ArgumentForm
  pub text : List ℕ
