-- From a plan back to the bytes of its file, and the plans that a file can hold.
pub mod Files
pub mod Expansions
pub mod Bounds
pub mod Claims
pub mod Inner
