pub mod Marks
pub mod Multiplied
pub mod Spans
pub mod Totals
pub mod WordTotals
pub mod Words
