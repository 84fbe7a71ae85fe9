-- Numbers 1 to 7, and what is found in a file in which none of them holds.
pub mod Contents
pub mod Found
pub mod Inner
