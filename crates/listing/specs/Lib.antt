-- What the listing's functions ask of each other.
pub mod Inner
