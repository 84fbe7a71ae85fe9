-- What a run knows of its cells.
pub mod Inner
