-- Tests, runs and stamps, and how cells are numbered
pub mod Booleans
pub mod Rows
pub mod Verdicts
pub mod Runs
pub mod Unmet
pub mod Needs
pub mod Stamps
pub mod Endings
pub mod Current
pub mod Numbering
pub mod Products
-- the check is exact
pub mod Bits
pub mod Status
pub mod Through
pub mod Stuck
pub mod Check
pub mod Trial
pub mod Cases
-- demand 3
pub mod Written
pub mod Demand
pub mod Demand3
pub mod Example
