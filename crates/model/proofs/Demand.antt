-- The parts of the proof of demand 3, each resting on those before it.
pub mod Blocks
pub mod Walks
pub mod Numbers
pub mod Declarations
pub mod Stages
pub mod Coherence
pub mod Intervals
pub mod Moves
pub mod Following
pub mod Adding
pub mod Telling
