mod ArgumentLemmas
pub mod ByteLemmas
pub mod CutLemmas
pub mod LineCutLemmas
pub mod ArgumentTexts
mod NameTexts
mod TargetTexts
mod LineTexts
mod CircuitTexts
mod AlikeLemmas
pub mod WordLemmas
pub mod NumberLemmas
pub mod AcceptedLemmas
mod CheckLemmas
mod DigitLemmas
mod FrontNumberLemmas
mod JudgeLemmas
mod NearLemmas
pub mod NameLemmas
mod PieceLemmas
mod PieceValueLemmas
mod ShortNumberLemmas
mod SignificantLemmas
pub mod FitLemmas
pub mod CircuitFits
pub mod WholeNumberLemmas
mod WrittenLemmas
pub mod TargetNumbers
mod TargetPieces
mod TargetWords
pub mod RecordTargets
pub mod NumberArguments
pub mod FewArguments
pub mod CoordinateArguments
mod QubitSetLemmas
mod ProductLemmas
mod BracketLemmas
pub mod ProductWords
mod ProductSteps
pub mod MarkLemmas
