pub mod ErrorLines
pub mod HeldText
pub mod ModelText
pub mod private
