pub mod Constants
pub mod Duality
pub mod Pairs
pub mod ShiftedWords
pub mod Shifts
pub mod UniqueModels
