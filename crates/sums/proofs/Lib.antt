-- Laws of the sums: of parts of a list, of rows added by columns, and of bands taken one after the other.
pub mod Parts
pub mod Added
pub mod Rows
pub mod Bands
