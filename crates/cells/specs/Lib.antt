-- The answer over all cells.
pub mod Inner
