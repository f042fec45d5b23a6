pub mod DetectorEnds
pub mod LineHeads
pub mod ShortLines
pub mod TargetNames
