mod ApartLemmas
mod ChangeLemmas
mod DeclarationLemmas
mod IncludedSets
mod LinkLemmas
mod ListedLemmas
mod OrderLemmas
mod PairLemmas
mod PuttingLemmas
pub mod SetLemmas
