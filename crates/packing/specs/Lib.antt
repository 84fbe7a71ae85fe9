-- Answers packed into one number each.
pub mod Packed
