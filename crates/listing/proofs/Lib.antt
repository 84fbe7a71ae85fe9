-- What the proofs of the listing's functions cite.
pub mod Found
