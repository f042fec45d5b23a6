pub mod Answered
pub mod Predicted
pub mod Served
