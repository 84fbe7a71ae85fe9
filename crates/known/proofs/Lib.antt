-- What is known of arrays.
pub mod Sets
