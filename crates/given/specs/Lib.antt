-- What declarations give, as it is written.
pub mod Inner
