-- What only internal contracts cite: no promise of an entry point rests on the text of these modules.
pub mod Sets
pub mod Ran
pub mod Stored
