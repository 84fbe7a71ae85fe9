-- The laws that the proofs of the judge's functions cite, and the theorem that the judge accepts exactly what the model's rules do.
pub mod Laws
pub mod Rules
