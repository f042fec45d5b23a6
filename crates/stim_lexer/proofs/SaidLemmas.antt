-- A line that opens a block stands where one more may be open, wherever its reading fits.
use Rattle.std.proofs.Common.{◌≡◌, ℕ, List, sym, subst}
use Rattle.stim_lexer.specs.declared.said.Said.{Said}
use Rattle.stim_lexer.specs.declared.said.Said.TheVariants as said
use Rattle.stim_lexer.specs.Fitting.{ReadingAccords}
use Rattle.stim_lexer.specs.Instructions.{Instruction}
use Rattle.stim_lexer.specs.Said.{OpensFew, reading_in}
use Rattle.stim_lexer.specs.Texts.{Reading}

few_said : {O T : Type 0} (Fits : Instruction O T → Type 0) (TurnsFit : ℕ → Type 0) (depth number : ℕ) (s : Said O) (targets : List T) → ReadingAccords Fits TurnsFit depth (reading_in number s targets) → OpensFew depth s
few_said Fits TurnsFit depth number (said.Accepts operation arguments) targets h = tt
few_said Fits TurnsFit depth number (said.Opens turns) targets h = h.1
few_said Fits TurnsFit depth number said.Closes targets h = tt
few_said Fits TurnsFit depth number (said.Refuses c) targets h = tt

pub opens_few : {O T : Type 0} (Fits : Instruction O T → Type 0) (TurnsFit : ℕ → Type 0) (depth number : ℕ) (s : Said O) (targets : List T) (reading : Reading (Instruction O T))
    → reading_in number s targets ≡ reading → ReadingAccords Fits TurnsFit depth reading → OpensFew depth s
opens_few Fits TurnsFit depth number s targets reading e fits =
    few_said Fits TurnsFit depth number s targets (subst (ReadingAccords Fits TurnsFit depth) (sym e) fits)
