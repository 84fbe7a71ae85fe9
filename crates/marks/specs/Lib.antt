-- What the functions that mark cells ask and give.
pub mod Inner
