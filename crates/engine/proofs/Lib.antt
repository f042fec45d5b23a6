pub mod DrawingLemmas
pub mod FindingLemmas
pub mod PlacedLemmas
pub mod PredictedLemmas
pub mod QuietRuns
pub mod ServedLemmas
pub mod ServingLemmas
pub mod RefusedLemmas
