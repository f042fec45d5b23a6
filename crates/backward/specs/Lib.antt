pub mod Places
pub mod private
