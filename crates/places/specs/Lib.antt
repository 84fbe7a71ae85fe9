-- A place in a plan.
pub mod Inner
