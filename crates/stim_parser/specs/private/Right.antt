-- Targets of a line with which nothing is wrong, by the table of its format: no question that is asked of them applies.
use Rattle.std.specs.Prelude.{◌≡◌, ℕ, true, false, List, None}
use Rattle.stim_parser.specs.Judging.{Table, first_of}

pub record AreRight {O T F : Type 0} (table : Table O T F) (form : F) (text : List ℕ) (targets : List T) : Type 0 where
  pub of_form : table.are_of_form form targets ≡ true
  pub within : table.has_target_beyond form targets ≡ false
  pub others : first_of (table.refusals_of_targets form text targets) ≡ None
