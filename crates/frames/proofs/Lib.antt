mod FrameSteps
mod LoneLemmas
mod StillFrames
mod TermWords
pub mod Beside
pub mod CarriedFrames
pub mod Detected
pub mod TargetFlips
pub mod FollowedSteps
pub mod FollowLaw
pub mod FollowerLemmas
pub mod LaneFrameLaws
pub mod LaneLaws
pub mod DecidedCoins
pub mod Beginnings
pub mod LineLemmas
pub mod PushLemmas
pub mod ShownLemmas
pub mod TextLemmas
pub mod QuietFaults
pub mod QuietBeside
pub mod CarryingFrames
pub mod FollowingFrames
