-- The summary of a block: what it does to one cell.
pub mod Inner
