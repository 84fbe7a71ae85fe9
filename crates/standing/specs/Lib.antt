-- The choices of a run, and where it stands.
pub mod Choices
pub mod Inner
