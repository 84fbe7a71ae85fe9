-- Laws that the functions' proofs cite
pub mod Over
pub mod Records
pub mod Declarations
