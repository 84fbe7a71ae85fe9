-- How a run begins.
pub mod Inner
