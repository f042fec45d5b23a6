pub mod Held
pub mod PairImages
pub mod Sets
pub mod Transposed
