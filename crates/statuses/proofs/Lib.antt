-- Tests, sets and statuses in numbers
pub mod Tests
pub mod Words
pub mod Statuses
-- a record that touches a cell, or does not
pub mod Touched
-- what a record does to a set
pub mod Moves
pub mod Tables
