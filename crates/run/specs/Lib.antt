-- The run of a plan file.
pub mod Running
pub mod Inner
