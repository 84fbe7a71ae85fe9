-- What the proof of the line cites.
pub mod Cases
