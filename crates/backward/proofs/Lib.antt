mod AnswerLemmas
pub mod Judging
pub mod ClearLines
pub mod GrownLists
mod HeldDetectorLemmas
mod HeldLines
mod LentHits
pub mod LinesTurned
pub mod MovedFilters
pub mod MovedLemmas
mod NumberedLemmas
pub mod PassFaults
pub mod PassLines
pub mod PassPlaces
pub mod PassRecords
pub mod PassSets
pub mod PassSteps
pub mod PassWords
mod PointLemmas
mod RecordMembers
mod SegmentLemmas
mod StepLemmas
mod StretchLemmas
pub mod TurnLemmas
pub mod TurnLineLemmas
pub mod TurnJumps
mod TurnLists
pub mod TurnPasses
pub mod TurnRecords
