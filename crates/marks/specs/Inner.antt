-- No promise of an entry point rests on these: what the contracts of the functions that mark cells cite.
pub mod Marks
