pub mod Table
pub mod Images
pub mod Names
pub mod Laws
pub mod WordImages
pub mod private
