pub mod Tracked
pub mod private
