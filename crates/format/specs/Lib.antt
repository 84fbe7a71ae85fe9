-- The plan file: what opening answers, the plan that a file is, the view of a body.
pub mod Opening
pub mod Plans
pub mod Views
pub mod Inner
