-- What the expander answers and writes.
pub mod Expanded
