pub mod ListingSets
pub mod private
