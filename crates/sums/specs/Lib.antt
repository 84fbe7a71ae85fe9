-- The check bytes of a plan file.
pub mod Sums
pub mod Inner
