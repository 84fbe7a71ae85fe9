-- The status of each cell of a plan, in a list.
pub mod Inner
