-- The statuses of one cell.
pub mod Inner
