-- Laws that the functions' proofs cite: where the runner stands, and what a step of it does
pub mod Records
pub mod Ways
pub mod Steps
