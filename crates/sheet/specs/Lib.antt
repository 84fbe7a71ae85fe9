-- Exercise sheets.
pub mod Sheets
pub mod Claims
