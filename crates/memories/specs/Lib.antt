-- What memories and flags hold.
pub mod Memories
pub mod Flags
pub mod Inner
