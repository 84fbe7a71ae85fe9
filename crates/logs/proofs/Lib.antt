-- the rows of the table, and what no row refuses
pub mod Rows
-- Logs of runs: what one more entry, one more choice and a shorter log are; that the log tells where the run stands
pub mod Logging
pub mod Telling
pub mod Numbers
pub mod Unique
pub mod Examples
-- the laws that the functions' proofs cite
pub mod Choosing
pub mod Following
pub mod Parts
