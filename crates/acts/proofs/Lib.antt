-- Laws that the functions' proofs cite: what a record does to memories, flags and tally.
pub mod Stale
pub mod Acting
pub mod Turning
