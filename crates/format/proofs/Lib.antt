-- Laws that the functions' proofs cite, and what clients that walk an opened plan cite.
pub mod Opening
pub mod Walking
pub mod Trees
pub mod Acts
pub mod Views
