-- The program of a text is that of the tree that it writes.
use Rattle.std.proofs.Common.{◌≡◌, ℕ, List, Result, Err, ap, subst, sym, ◌∙◌}
use Rattle.step_model.specs.declared.fault.Fault.{Fault}
use Rattle.step_model.specs.Faults.{◌>>=◌}
use Rattle.step_model.specs.Listing.{Listing}
use Rattle.stim_lexer.specs.Flat.{tree_of}
use Rattle.stim_lexer.specs.Stored.{tree_of-items}
use Rattle.stim_parser.specs.Trees.{Tree}
use Rattle.stim_parser.specs.Judged.{Writes, IsRefusedBy}
use Rattle.unroll.specs.Programs.{program_in, program_of}

pub program_of_text : (text : List ℕ) (tree : Tree) → Writes text tree → program_in text ≡ program_of tree
program_of_text text tree written =
    ap (λ r. r >>= (λ items. program_of (tree_of items))) written ∙ ap program_of (tree_of-items tree)

pub refusal_of_text : (text : List ℕ) (fault : Fault) → IsRefusedBy text fault → program_in text ≡ Err fault
refusal_of_text text fault refused = ap (λ r. r >>= (λ items. program_of (tree_of items))) refused

-- what holds of what a tree gives holds of what its text gives
pub as_written : (text : List ℕ) (tree : Tree) (holds : Result Listing Fault → Type 0) → Writes text tree → holds (program_of tree) → holds (program_in text)
as_written text tree holds written h = subst holds (sym (program_of_text text tree written)) h
