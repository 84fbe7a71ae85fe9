-- What the router really did (document 02, request i): a log held against a plan.
pub mod Logs
pub mod Logged
pub mod Claims
pub mod Inner
