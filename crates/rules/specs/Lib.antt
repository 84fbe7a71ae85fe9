-- Numbers 8 to 10 and 26 of one record.
pub mod Rules
