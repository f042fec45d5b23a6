pub use Rattle.bit_rows.specs.Rows
pub mod Bits
pub mod Letters
pub mod Parity
pub mod States
pub mod Words
pub mod Groups
pub mod WordMaps
