pub mod ScanLemmas
mod LexingLemmas
mod Nowhere
mod PlainLemmas
mod SpecialLemmas
pub mod TreeLemmas
pub mod TextLemmas
pub mod PassLemmas
pub mod CappedSums
pub mod FlatLemmas
pub mod SaidLemmas
pub mod QuestionLemmas
