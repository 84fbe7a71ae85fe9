-- The figures of a sheet.
pub mod Examples
pub mod Endings
pub mod Statuses
pub mod Counting
pub mod Filling
