-- Numbers 8 to 10 and 26.
pub mod Records
