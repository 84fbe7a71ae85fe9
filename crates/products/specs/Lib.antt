-- Number 26 of the expander.
pub mod Products
pub mod Inner
