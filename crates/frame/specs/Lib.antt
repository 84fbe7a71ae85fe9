-- Numbers 1, 2, 6 and 7.
pub mod Frame
