-- The laws that the functions' proofs cite, by subject.
pub mod Answers
pub mod Lengths
