-- the masks of a record
pub mod Rows
-- a loop over cells, and the list after a record
pub mod Tracking
-- the list at the start
pub mod First
