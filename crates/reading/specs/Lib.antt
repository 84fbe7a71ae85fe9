-- The parts of a plan file, by their places in its bytes.
pub mod Bytes
pub mod Kinds
pub mod Inner
