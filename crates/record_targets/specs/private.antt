pub mod Apart
pub mod Links
pub mod ListedTargets
pub mod RecordSets
