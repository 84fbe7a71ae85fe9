-- How many records the expansion has.
pub mod Inner
