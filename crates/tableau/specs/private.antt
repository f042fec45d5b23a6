pub mod CliffordMaps
pub mod ControlledSteps
pub mod Decoding
pub mod Encoding
pub mod EncodingSteps
pub mod Factors
pub mod Waiting
