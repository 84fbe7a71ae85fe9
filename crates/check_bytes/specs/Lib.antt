-- The check sums of any bytes, and of a front and a back.
pub mod Checks
pub mod Packed
pub mod Claims
