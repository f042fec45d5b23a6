pub mod TermLetters
pub mod FactorTexts
pub mod KeptTexts
pub mod QubitNames
pub mod HeldLines
pub mod PutTexts
