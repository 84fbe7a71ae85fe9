-- Laws that the functions' proofs cite, and what a file that passes numbers 1 to 7 keeps.
pub mod Entries
pub mod Places
pub mod Bounds
pub mod Found
