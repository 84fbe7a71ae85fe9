-- how the table is made
pub mod Filling
