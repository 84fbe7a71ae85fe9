-- What only proofs and internal contracts cite: no promise of an entry point rests on the text of these modules.
pub mod Holders
pub mod Events
pub mod Statuses
pub mod Stops
pub mod Lowest
pub mod Declared
