-- The definitions of document 01 that know no bytes, in its order.
--
-- How to read them, here and in the other crates: a definition is `name : its type`, and below it one line `name arguments = what it is`
-- for each shape of its arguments. `abbrev` and `unfoldable` change nothing of what a definition says: the prover looks into an `abbrev` by
-- itself, and into an `unfoldable` one where a proof asks for it. `pub` is what other files may use. Words in quotation marks are document
-- 01's (or 02's, where a file says so).
pub mod Lists
pub mod Rows
pub mod Sides
pub mod Records
pub mod Effects
pub mod Blocks
pub mod Runs
pub mod Check
pub mod Judging
pub mod Expanding
pub mod Verdicts
pub mod Demand
pub mod Cases
pub mod Claims
pub mod Inner
