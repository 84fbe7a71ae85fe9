-- Where a pass stands, and what opening has tested of its records
pub mod Records
