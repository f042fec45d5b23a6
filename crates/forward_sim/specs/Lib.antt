pub mod Listed
pub mod Lists
pub mod References
pub mod SameRuns
pub mod private
pub mod Drawn
pub mod Shots
