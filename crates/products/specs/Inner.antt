-- No promise of an entry point rests on these: what the contracts of internal functions cite.
pub mod Counts
