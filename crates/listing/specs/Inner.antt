-- No promise of an entry point rests on these: what the contracts of the functions below them cite.
pub mod Bodies
