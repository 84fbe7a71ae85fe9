-- Laws that the functions' proofs cite: how a run begins
pub mod First
pub mod Begins
