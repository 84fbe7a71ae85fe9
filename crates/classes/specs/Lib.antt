-- Which cells share a walk.
pub mod Inner
