-- Laws of kinds of files and of records, of ranges, of the shapes of records, and of tables.
pub mod FileKinds
pub mod Named
pub mod Ranges
pub mod Shapes
pub mod Tables
