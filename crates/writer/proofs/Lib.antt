-- Laws that the functions' proofs cite
pub mod Over
pub mod Bytes
pub mod Passes
pub mod Pieces
pub mod Expansions
pub mod Files
