-- Laws that the functions' proofs cite
pub mod Tables
pub mod Fields
pub mod Walks
pub mod Passes
pub mod Body0
