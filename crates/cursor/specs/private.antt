pub mod Marks
pub mod Forward
pub mod Blocks
pub mod Backward
pub mod Iterations
