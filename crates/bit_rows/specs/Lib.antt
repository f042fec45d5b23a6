pub mod Rows
pub mod private
pub mod Lanes
