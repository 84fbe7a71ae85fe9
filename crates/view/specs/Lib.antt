-- The view of a memory.
pub mod Viewing
