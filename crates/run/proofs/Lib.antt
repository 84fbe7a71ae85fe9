-- Laws that the functions' proofs cite: before a run, and what it leaves at its end.
pub mod Begins
pub mod Ends
