-- The file of a plan opens as that plan, and its entries are bytes.
pub mod Files
pub mod RoundTrip
pub mod Octets
pub mod Claims
pub mod Examples
pub mod Blocks
pub mod Given
