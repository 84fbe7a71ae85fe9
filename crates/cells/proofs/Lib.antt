-- the cells that stop alike, and the answer
pub mod Alike
pub mod Answers
