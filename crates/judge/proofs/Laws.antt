-- What the proofs of the judge's functions cite.
pub mod Written
pub mod Passes
