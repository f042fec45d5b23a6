-- What the judgement of a format's texts is, whatever its lines say: there is one, and no other.
use Rattle.std.specs.Prelude.{◌≡◌, ◌⊎◌, ℕ, List}
use Rattle.step_model.specs.declared.fault.Fault.{Fault}
use Rattle.stim_lexer.specs.Judged.{Writes, IsRefusedBy}
use Rattle.stim_lexer.specs.Texts.{Format}
use Rattle.stim_lexer.specs.Trees.{Tree}

-- the lines of each text make exactly one tree, or are refused by exactly one fault, and never both
pub record AreJudgedOnce {I : Type 0} (format : Format I) : Type 0 where
  pub judged : (text : List ℕ) → ((tree : Tree I) × Writes format text tree) ⊎ ((fault : Fault) × IsRefusedBy format text fault)
  pub one_tree : (text : List ℕ) (t u : Tree I) → Writes format text t → Writes format text u → t ≡ u
  pub one_fault : (text : List ℕ) (f g : Fault) → IsRefusedBy format text f → IsRefusedBy format text g → f ≡ g
  pub not_both : (text : List ℕ) (t : Tree I) (f : Fault) → Writes format text t → IsRefusedBy format text f → ⊥
