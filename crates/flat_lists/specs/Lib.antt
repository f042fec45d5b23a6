pub mod Cuts
pub mod Growing
