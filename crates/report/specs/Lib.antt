-- What the program reports.
pub mod Reports
