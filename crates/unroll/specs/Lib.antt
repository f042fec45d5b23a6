pub mod Programs
pub mod private
