-- Laws that the functions' proofs cite: ranges of cells, sets of flags.
pub mod Cells
pub mod Masks
