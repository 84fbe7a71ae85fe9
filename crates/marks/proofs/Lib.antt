-- The laws that the proofs of the functions that mark cells cite.
pub mod Marks
pub mod Walks
