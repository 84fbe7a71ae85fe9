-- The records that concern a cell.
pub mod Inner
