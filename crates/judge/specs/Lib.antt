-- What the judge answers.
pub mod Judged
pub mod Claims
pub mod Inner
