-- No promise of an entry point rests on these: what the contracts of the functions that read records cite.
pub mod Places
pub mod Cells
