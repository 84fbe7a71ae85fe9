-- A front joined to a back, and the sums packed and unpacked.
pub mod Joins
pub mod Unpacks
