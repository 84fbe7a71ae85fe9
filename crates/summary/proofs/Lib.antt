-- what is found of blocks and of loops
pub mod Blocks
pub mod Ways
pub mod Skips
pub mod Turns
pub mod Powers
pub mod Keeping
pub mod Actions
pub mod Passing
pub mod Prefixes
