pub mod Special
