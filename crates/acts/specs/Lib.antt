-- What one record does to memories and flags.
pub mod Inner
