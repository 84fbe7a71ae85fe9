-- No promise of an entry point rests on these: what the contracts of the functions above them cite.
pub mod Given
pub mod Short
