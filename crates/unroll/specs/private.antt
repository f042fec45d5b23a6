pub mod Accepted
pub mod Counted
pub mod MadeTotals
pub mod Observables
pub mod Pushed
pub mod Summed
