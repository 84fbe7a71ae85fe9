-- the marks, and the answer with a cell more
pub mod Marking
pub mod More
