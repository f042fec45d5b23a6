-- The parity of truth values: whether exactly one of two is true, as rows of bits are added.
-- (This project's own.)
pub use Rattle.bit_rows.specs.Rows.{exclusive_or}
