-- The claim of specs/Longer.
pub mod Longer
