-- Lines of a text that are read one after another, and what they make of the text, whatever follows them.
use Rattle.std.specs.Prelude.{◌≡◌, ℕ, ◌+◌, ◌-◌, ◌^◌, ◌<◌, ◌≤◌, List, [], ◌++◌, length, true, Bool, Err}
use Rattle.step_model.specs.declared.fault.Fault.{Fault}
use Rattle.stim_lexer.specs.Lines.{lines_of}
use Rattle.stim_lexer.specs.Reached.{reached}
use Rattle.stim_lexer.specs.Texts.{items_from}
use Rattle.stim_lexer.specs.Trees.{items_of}
use Rattle.stim_lexer.specs.Unfinished.{Unfinished}
use Rattle.dem_text.specs.declared.front.End.{End}
use Rattle.dem_text.specs.declared.front.End.TheVariants as «end»
use Rattle.dem_text.specs.declared.front.Front.{Front}
use Rattle.dem_text.specs.declared.front.Passed.{Passed}
use Rattle.dem_text.specs.declared.front.Passed.TheVariants as passed
use Rattle.dem_text.specs.declared.kept.Keep.{Keep}
use Rattle.dem_text.specs.declared.kept.Keep.TheVariants as keep
use Rattle.dem_text.specs.Reached.{block_lines, most_lines}
use Rattle.stim_lexer.proofs.TextLemmas.{after}
use Rattle.dem_text.specs.Texts.{Item, models}
use Rattle.dem_text.specs.Trees.{Tree}
use Rattle.dem_text.specs.Verdicts.{Instruction}
use Rattle.dem_text.specs.private.Folds.{Folded, Follows, IsSound, fold_over, fold_start}
use Rattle.dem_text.specs.private.Unrolled.{few_of}

-- a text is some lines and what stands behind them
pub record IsBehind (text rest : List ℕ) (lines : List (List ℕ)) : Type 0 where
  pub front : List ℕ
  pub text_is : text ≡ front ++ rest
  pub lines_are : lines_of text ≡ lines ++ lines_of rest
  pub few : length lines ≤ length front

-- behind so many lines, these make so much
pub record IsMaking (count : ℕ) (lines : List (List ℕ)) (u : Unfinished Instruction) : Type 0 where
  pub makes : (more : List (List ℕ)) → items_from models [] count (lines ++ more) ≡ after u.items (items_from models u.opened (count + length lines) more)
  pub few : length u.items ≤ length lines

-- lines are refused behind so many, whatever follows them
abbrev pub AreRefused : ℕ → List (List ℕ) → Fault → Type 0
AreRefused count lines fault = (more : List (List ℕ)) → items_from models [] count (lines ++ more) ≡ Err fault

-- ---- lines that are kept, behind these

pub record HasKept (count : ℕ) (before : List (List ℕ)) (text : List ℕ) (read : ℕ) (items : List Item) (rest : List ℕ) (read' : ℕ) : Type 0 where
  pub lines : List (List ℕ)
  pub behind : IsBehind text rest lines
  pub read_is : read' ≡ read + length lines
  pub making : IsMaking count (before ++ lines) (record { items = items; opened = [] })

abbrev pub HasKeptLines : {A : Type 0} → ℕ → List (List ℕ) → List ℕ → ℕ → Bool → Keep A → Type 0
HasKeptLines count before text read whole (keep.Closed kept rest read') = HasKept count before text read kept rest.now read' × (whole ≡ true → rest.now ≡ [])
HasKeptLines count before text read whole (keep.Open fault) = items_from models [] count (before ++ lines_of text) ≡ Err fault
HasKeptLines count before text read whole (keep.Refused fault) = (more : List (List ℕ)) → items_from models [] count (before ++ (lines_of text ++ more)) ≡ Err fault

-- ---- a model that is read

-- lines from a text's start make this tree, and this is kept of them, with so many bits
pub record HasRead {A : Type 0} (named : List ℕ) (places : ℕ) (lines : List (List ℕ)) (tree : Tree) (front : Front A) : Type 0 where
  pub making : IsMaking 0 lines (record { items = items_of tree; opened = [] })
  pub read_is : front.read ≡ length lines
  pub unrolled_is : front.unrolled ≡ few_of (block_lines tree)
  pub follows : block_lines tree ≤ most_lines → Follows named (fold_over named (fold_start places) (reached tree)) front.fold

-- there is room for the numbers of so many bytes' lines
abbrev pub HasRoomFor : ℕ → ℕ → Type 0
HasRoomFor read bytes = read + bytes < 2 ^ 64 - 2 ^ 24

-- what is kept beside the fold fits
pub record IsReady {A : Type 0} (front : Front A) : Type 0 where
  pub sound : IsSound front.fold.standing
  pub few : front.fold.standing.passed ≤ front.read + front.unrolled
  pub capped : front.unrolled ≤ most_lines + 1

-- the fold was taken past these instructions, unless blocks unroll to too many lines: then nothing changed
pub record HasFolded {A : Type 0} (is : List Instruction) (old new : Front A) : Type 0 where
  pub follows : new.unrolled ≤ most_lines → (named : List ℕ) (f : Folded) → Follows named f old.fold → Follows named (fold_over named f is) new.fold
  pub sound : IsSound new.fold.standing
  pub few : new.unrolled ≤ most_lines → new.fold.standing.passed ≤ old.fold.standing.passed + length is
  pub still : most_lines < new.unrolled → new.fold.standing.passed ≤ old.fold.standing.passed

-- lines of a text were read behind those that were read before: what there was of these, there is of all
pub record HasPassed {A : Type 0} (text rest : List ℕ) (old new : Front A) : Type 0 where
  pub lines : List (List ℕ)
  pub behind : IsBehind text rest lines
  pub read_is : new.read ≡ old.read + length lines
  pub read : (named : List ℕ) (places : ℕ) (before : List (List ℕ)) (tree : Tree) → HasRead named places before tree old → (tree' : Tree) × HasRead named places (before ++ lines) tree' new
  pub ready : IsReady new

-- what ended the reading there
abbrev pub HasEnded : ℕ → List ℕ → End → Type 0
HasEnded read rest «end».Text = rest ≡ []
HasEnded read rest («end».Open fault) = items_from models [] read (lines_of rest) ≡ Err fault
HasEnded read rest («end».Refused fault) = AreRefused read (lines_of rest) fault

-- lines of a text were read up to an end
pub record HasTaken {A : Type 0} (text rest : List ℕ) (ended : End) (old new : Front A) : Type 0 where
  pub passed : HasPassed text rest old new
  pub ends : HasEnded new.read rest ended

-- the first line of a text was read, with the block that it opens, or the reading ended there and nothing changed that counts
abbrev pub PassesFirst : {A : Type 0} → List ℕ → Passed → Front A → Front A → Type 0
PassesFirst text (passed.Behind rest) old new = HasPassed text rest.now old new × (length rest.now < length text)
PassesFirst text (passed.Ended ended) old new = HasPassed text text old new × HasEnded new.read text ended
