-- What a pass may do by its declarations.
pub mod Permits
pub mod Inner
