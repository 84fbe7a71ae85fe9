-- From a declared file to its expansion's file: it opens, as the expansion, and no run of it gets stuck.
pub mod Levels
pub mod Fits
pub mod Opens
pub mod Runs
-- no run of what the expander writes is stopped
pub mod Closing
