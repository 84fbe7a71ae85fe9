-- Laws that the functions' proofs cite
pub mod Counts
pub mod Rows
pub mod Expansions
pub mod Examples
