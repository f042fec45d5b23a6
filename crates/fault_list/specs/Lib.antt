pub mod FaultLines
pub mod private
