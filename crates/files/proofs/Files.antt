-- The parts of the proof of the round trip, each resting on those before it.
pub mod Holding
pub mod Places
pub mod Accepting
pub mod Records
pub mod Reading
pub mod Calling
pub mod Declaring
