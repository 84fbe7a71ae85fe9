-- Where a pass stands.
pub mod Inner
