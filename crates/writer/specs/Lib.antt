-- The records of the expansion, as they are written.
pub mod Inner
