-- What the program writes.
pub mod Expansions
