-- What the programs' reading rests on.
pub mod Counts
pub mod Longer
