-- The run of what the expander writes.
pub mod Closing
pub mod Claims
